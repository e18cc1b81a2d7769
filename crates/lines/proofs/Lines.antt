-- Decimal digits, and runs of stores: what one call of a printing function adds to what the others wrote.
use mathlib.Core.Path.{◌≡◌, refl, sym, ◌∙◌}
use mathlib.Core.Bool.{Bool, true, false}
use mathlib.Core.List.{List, [], ◌∷◌, ◌++◌, append_assoc}
use Prim.Native.Nat.{ℕ, zero, suc, ◌+◌, ◌*◌, ◌/◌, ◌%◌, ◌^◌, ◌≤◌, ◌<◌}
use native.Mathlib.Nat.{pow-suc, div-lt_iff_lt-mul}
use native.Mathlib.Omega.{arith}
use lib.Dec.{ltb}
use lib.ListN.{length, set, length-append}
use lib.Seq.{sets}
use borrow.Author.Tests.{ltb-true, ltb-false, lt-ltb, le-ltb}
use Rattle.paper.specs.Inputs.{digits, decimal, line_text}
use Rattle.paper.specs.Runs.{Line}
use Rattle.lines.specs.Lines.{line_room, word, Written}

-- ── Digits ──

-- A number is below another, or it is not.
pub by_place : {A : Type 0} (n m : ℕ) → (n < m → A) → (m ≤ n → A) → A
by_place {A} n m below past = go (ltb n m) (λ e. below (ltb-true n m e)) (λ e. past (ltb-false n m e))
  where
    go : (b : Bool) → (b ≡ true → A) → (b ≡ false → A) → A
    go true f g = f refl
    go false f g = g refl

-- Spare fuel adds no digit.
pub digits_fuel : (f g n : ℕ) → n < f → n < g → digits f n ≡ digits g n
unfolding digits
digits_fuel zero g n h k = absurd (omega arith)
digits_fuel (suc f) zero n h k = absurd (omega arith)
digits_fuel (suc f) (suc g) n h k =
    by_place n 10 (λ one. rw (lt-ltb n 10 one))
    (λ more. rw (le-ltb n 10 more, digits_fuel f g (n / 10) (omega arith) (omega arith)))

pub decimal_one : (n : ℕ) → n < 10 → decimal n ≡ (48 + n) ∷ []
unfolding decimal digits
decimal_one n h = rw (lt-ltb n 10 h)

pub decimal_more : (n : ℕ) → 10 ≤ n → decimal n ≡ decimal (n / 10) ++ (48 + n % 10) ∷ []
unfolding decimal digits
decimal_more n h = rw (le-ltb n 10 h, digits_fuel n (suc (n / 10)) (n / 10) (omega arith) (omega arith))

pub decimal-length : (n : ℕ) → 10 ≤ n → length (decimal n) ≡ length (decimal (n / 10)) + 1
decimal-length n h = rw (decimal_more n h, length-append)

pub decimal_short : (k n : ℕ) → n < 10 ^ suc k → length (decimal n) ≤ suc k
decimal_short zero n h = rw (decimal_one n (omega arith)) (omega arith)
decimal_short (suc k) n h =
    by_place n 10 (λ one. rw (decimal_one n one) (omega arith))
    (λ more.
    let h' : n < 10 ^ suc k * 10 = rw (← pow-suc) h in
    let rest = decimal_short k (n / 10) ((div-lt_iff_lt-mul (omega arith)).1 h') in
    rw (decimal_more n more, length-append) (omega arith))

-- ── Stores ──

pub sets-append : (buffer : List ℕ) (at : ℕ) (xs ys : List ℕ)
    → sets buffer at (xs ++ ys) ≡ sets (sets buffer at xs) (at + length xs) ys
sets-append buffer at [] ys = let e : at + 0 ≡ at = omega arith in rw e
sets-append buffer at (x ∷ xs) ys =
    let e : at + suc (length xs) ≡ suc at + length xs = omega arith in
    rw e (sets-append (set buffer at x) (suc at) xs ys)

-- One text, and then another where it ends.
pub written-append : {buffer : List ℕ} {at : ℕ} {xs ys : List ℕ} {seam end : ℕ} {buffer' buffer'' : List ℕ}
    → Written buffer at xs seam buffer' → Written buffer' seam ys end buffer''
    → Written buffer at (xs ++ ys) end buffer''
written-append {buffer} {at} {xs} {ys} first then = record {
  bytes = then.bytes ∙ rw (first.bytes, first.ends) (sym (sets-append buffer at xs ys));
  ends = let l : length (xs ++ ys) ≡ length xs + length ys = length-append xs ys in omega (arith, first.ends, then.ends);
}

pub written_byte : (buffer : List ℕ) (at byte : ℕ) → Written buffer at (byte ∷ []) (at + 1) (set buffer at byte)
written_byte buffer at byte = record { bytes = refl; ends = refl }

-- ── Lines ──

regroup : (s t a b c d e : List ℕ) → a ++ (s ++ b) ++ (s ++ c) ++ (s ++ d) ++ (s ++ e) ++ t
    ≡ (a ++ s) ++ (b ++ s) ++ (c ++ s) ++ (d ++ s) ++ (e ++ t)
regroup s t a b c d e = simp append_assoc

-- A line is five words.
pub line_words : (l : Line) → line_text l
    ≡ word l.place 32 ++ word l.kind 32
    ++ word l.given.number 32 ++ word l.given.first 32 ++ word l.given.second 10
unfolding line_text word
line_words l =
    let g = l.given in
    regroup (32 ∷ []) (10 ∷ []) (decimal l.place) (decimal l.kind) (decimal g.number) (decimal g.first) (decimal g.second)

pub word-length : (n end : ℕ) → length (word n end) ≡ length (decimal n) + 1
unfolding word
word-length n end = rw length-append

pub word_short : (k n end : ℕ) → n < 10 ^ suc k → length (word n end) ≤ suc (suc k)
word_short k n end h = rw word-length (omega (arith, decimal_short k n h))

pub place_short : (n end : ℕ) → n < 2 ^ 64 → length (word n end) ≤ 21
place_short n end h = word_short 19 n end (omega arith)

pub number_short : (n end : ℕ) → n < 2 ^ 32 → length (word n end) ≤ 11
number_short n end h = word_short 9 n end (omega arith)

pub line_short : (l : Line) → l.place < 2 ^ 64 → l.kind < 2 ^ 32 → l.given.number < 2 ^ 32 → l.given.first < 2 ^ 32
    → l.given.second < 2 ^ 32 → length (line_text l) ≤ line_room
line_short l place kind number first second =
    let g = l.given in
    rw line_words
    (simp length-append (omega (
      arith,
      place_short l.place 32 place,
      number_short l.kind 32 kind,
      number_short g.number 32 number,
      number_short g.first 32 first,
      number_short g.second 10 second,
    )))
