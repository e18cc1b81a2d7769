-- Literals as bytes, how long the records are, and where one is put.
use mathlib.Core.Path.{◌≡◌, refl, sym, ◌∙◌, ap}
use mathlib.Core.Bool.{Bool, true, false}
use mathlib.Core.List.{List, [], ◌∷◌, ◌++◌, append_assoc}
use Prim.Native.Nat.{ℕ, ◌+◌, ◌*◌, ◌≤◌, ◌<◌}
use native.Mathlib.Numerals.{add-one}
use native.Mathlib.Omega.{arith}
use lib.Dec.{leb}
use lib.IntN.{ℤ, pos, negsuc}
use lib.ListN.{length, take, get_or}
use lib.Seq.{sets, sets-eq, drop-drop, take-suc, length-take-le, length-sets}
use borrow.Rule.Slice.PartMut.{put_mid}
use Rattle.std.specs.Int.{to_le_bytes, cast_unsigned, w32, w64}
use Rattle.std.proofs.Math.Nat.{div-div-eq-div-mul}
use borrow.Author.Tests.{leb-true, leb-false}
use Rattle.paper.specs.Clauses.{Clause}
use Rattle.paper.specs.Texts.{bytes_for, bits_of, literal_bytes, record_bytes}
use Rattle.lines.specs.Lines.{Written}
use Rattle.lines.proofs.Lines.{written-append}
use Rattle.output.specs.Puts.{Put, rule_record, wish_record}

-- ── Numbers ──

pub low_four : (n : ℕ) → take 4 (to_le_bytes w64 n) ≡ bytes_for 4 n
low_four n = rw (div-div-eq-div-mul n 256 256, div-div-eq-div-mul n 65536 256)

-- Bytes that are copied over as many are stored one after the other.
pub copied : (room : List ℕ) (at k : ℕ) (bytes part : List ℕ) → part ≡ bytes → k ≡ length bytes → at + length bytes ≤ length room
    → put_mid at k room part ≡ sets room at bytes
copied room at k bytes part e n h = rw (e, n, sets-eq bytes room at h, drop-drop, append_assoc)

-- ── Literals ──

unsigned_is : (l : ℤ) → cast_unsigned w32 l ≡ bits_of l
unsigned_is (pos v) = refl
unsigned_is (negsuc v) = omega arith

literals_snoc : (c : Clause) (l : ℤ) → literal_bytes (c ++ (l ∷ [])) ≡ literal_bytes c ++ bytes_for 4 (bits_of l)
literals_snoc [] l = refl
literals_snoc (x ∷ c) l = ap (λ bytes. bytes_for 4 (bits_of x) ++ bytes) (literals_snoc c l)

pub literals_more : (c : Clause) (i : ℕ) → i < length c
    → literal_bytes (take (i + 1) c) ≡ literal_bytes (take i c) ++ bytes_for 4 (bits_of (get_or c i (pos 0)))
literals_more c i h = rw (add-one, take-suc c i (pos 0) h) (literals_snoc (take i c) (get_or c i (pos 0)))

pub length_literals : (c : Clause) → length (literal_bytes c) ≡ 4 * length c
length_literals [] = refl
length_literals (l ∷ c) = omega (arith, length_literals c)

-- The first i literals stand in the room.
pub record Copying (room₀ : List ℕ) (at : ℕ) (c : Clause) (room : List ℕ) (place i : ℕ) : Type 0 where
  pub within : i ≤ length c
  pub same_length : length room ≡ length room₀
  pub written : Written room₀ at (literal_bytes (take i c)) place room

module _ {room₀ : List ℕ} {at : ℕ} {c : Clause} {room : List ℕ} {place i : ℕ} (C : Copying room₀ at c room place i) where
  pub copied_place : place ≡ at + 4 * i
  copied_place =
      omega (arith, C.within, C.written.ends, length_literals (take i c), length-take-le i c C.within)

  pub copied_more : i < length c → {next : ℕ} {room' : List ℕ}
      → Written room place (bytes_for 4 (cast_unsigned w32 (get_or c i (pos 0)))) next room' → Copying room₀ at c room' next (i + 1)
  copied_more h w =
      record {
        within = omega arith;
        same_length = ap length w.bytes ∙ length-sets room place (bytes_for 4 (cast_unsigned w32 (get_or c i (pos 0)))) ∙ C.same_length;
        written = rw (literals_more c i h) (written-append C.written (rw unsigned_is at w));
      }

-- ── Records ──

pub length_rule : (c : Clause) → length (record_bytes (rule_record c)) ≡ 6 + 4 * length c
length_rule c = omega (arith, length_literals c)

pub length_wish : (weight : ℕ) (c : Clause) → length (record_bytes (wish_record weight c)) ≡ 10 + 4 * length c
length_wish weight c = omega (arith, length_literals c)

pub rule_bytes : (c : Clause) → record_bytes (rule_record c) ≡ (bytes_for 4 (2 + 4 * length c) ++ bytes_for 2 2) ++ literal_bytes c
rule_bytes c = rw (length_literals c)

pub wish_bytes : (weight : ℕ) (c : Clause)
    → record_bytes (wish_record weight c) ≡ ((bytes_for 4 (6 + 4 * length c) ++ bytes_for 2 3) ++ bytes_for 4 weight) ++ literal_bytes c
wish_bytes weight c =
    let size : 2 + length (bytes_for 4 weight ++ literal_bytes c) ≡ 6 + 4 * length c = omega (arith, length_literals c) in
    rw size

-- ── Whether there is place ──

module _ (room : List ℕ) (at size : ℕ) (bytes : List ℕ) (is : length bytes ≡ size) {r : Bool} (e : r ≡ leb (at + size) (length room)) where
  pub refused : r ≡ false → Put room at bytes (length room + 1) room
  refused t =
      let h = leb-false (at + size) (length room) (sym e ∙ t) in
      record { fits = λ k. absurd (omega arith); past = λ k. (refl, omega arith) }

  pub put : r ≡ true → {end : ℕ} {room' : List ℕ} → Written room at bytes end room' → Put room at bytes end room'
  put t w =
      let h = leb-true (at + size) (length room) (sym e ∙ t) in
      record { fits = λ k. w; past = λ k. absurd (omega arith) }
