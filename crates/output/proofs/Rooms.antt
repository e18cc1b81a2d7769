-- A room that is filled from its front, and cleared behind.
use mathlib.Core.Path.{◌≡◌, refl, ◌∙◌, ap}
use mathlib.Core.List.{List, [], ◌++◌}
use Prim.Native.Nat.{ℕ, suc, ◌+◌, ◌-◌, ◌≤◌, ◌<◌}
use native.Mathlib.Omega.{arith}
use lib.ListN.{length, take, drop, replicate, length-append}
use lib.Seq.{sets, sets-eq, length-sets, take-append_seam}
use borrow.Author.Tests.{le-ltb}
use Rattle.paper.specs.Texts.{filled}
use Rattle.lines.specs.Lines.{Written}
use Rattle.lines.proofs.Lines.{by_place, written-append}
use Rattle.output.specs.Puts.{Put, Puts}

-- ── Filling ──

pub sets_front : (room bytes : List ℕ) → length bytes ≤ length room → sets room 0 bytes ≡ bytes ++ drop (length bytes) room
sets_front room bytes h = let e : 0 + length bytes ≡ length bytes = omega arith in sets-eq bytes room 0 (omega arith) ∙ rw e

pub puts_none : (room : List ℕ) → Puts room [] 0 room
puts_none room =
    record { same_length = refl; fits = λ h. record { bytes = refl; ends = refl }; past = λ h. absurd (omega arith) }

pub put-length : {room : List ℕ} {at : ℕ} {bytes : List ℕ} {end : ℕ} {room' : List ℕ} → Put room at bytes end room' → length room' ≡ length room
put-length {room} {at} {bytes} p =
    by_place (length room) (at + length bytes) (λ h. ap length (p.past h).0) (λ h. ap length (p.fits h).bytes ∙ length-sets room at bytes)

-- One more, where the others end.
module _ {room xs : List ℕ} {seam : ℕ} {room' : List ℕ} (P : Puts room xs seam room')
    {ys : List ℕ} {end : ℕ} {room'' : List ℕ} (p : Put room' seam ys end room'') where
  more_fits : length xs + length ys ≤ length room → Written room 0 (xs ++ ys) end room''
  more_fits h =
      let first = P.fits (omega arith) in
      written-append first (p.fits (omega (arith, first.ends, P.same_length)))

  over : length room < seam + length ys → end ≡ suc (length room)
  over h = (p.past (omega (arith, P.same_length))).1 ∙ ap suc P.same_length

  more_past : length room < length xs + length ys → end ≡ suc (length room)
  more_past h =
      by_place (length room) (length xs) (λ k. over (omega (arith, P.past k))) (λ k. over (omega (arith, (P.fits k).ends)))

  pub puts_more : Puts room (xs ++ ys) end room''
  puts_more =
      let l = length-append xs ys in
      record {
        same_length = put-length p ∙ P.same_length;
        fits = λ h. more_fits (omega (arith, l));
        past = λ h. more_past (omega (arith, l));
      }

-- ── Filled, and cleared behind ──

pub zeros_behind : (room bytes : List ℕ) → length bytes ≤ length room
    → take (length bytes) (sets room 0 bytes) ++ replicate (length (sets room 0 bytes) - length bytes) 0
    ≡ bytes ++ replicate (length room - length bytes) 0
zeros_behind room bytes h = rw (length-sets, sets_front room bytes h, take-append_seam)

-- Whether all of it fits shows at the end; then clearing behind the end leaves what is asked on paper.
module _ {room bytes : List ℕ} {end : ℕ} {room' : List ℕ} (P : Puts room bytes end room') where
  pub all_fits : end ≤ length room → length bytes ≤ length room
  all_fits h = grind (arith, P.past)

  pub none_fits : length room < end → length room < length bytes
  none_fits h =
      let ends : length bytes ≤ length room → end ≡ 0 + length bytes = λ k. (P.fits k).ends in
      grind (arith, ends)

  pub end_is : end ≤ length room → end ≡ length bytes
  end_is h = omega (arith, (P.fits (all_fits h)).ends)

  pub cleared_behind : end ≤ length room → take end room' ++ replicate (length room' - end) 0 ≡ filled (length room) bytes
  cleared_behind h =
      rw (end_is h, (P.fits (all_fits h)).bytes, le-ltb (length room) (length bytes) (all_fits h))
      (zeros_behind room bytes (all_fits h))
