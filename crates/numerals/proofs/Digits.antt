-- A word read digit by digit: what is still to come decides as the whole does.
use Rattle.std.proofs.Common.{◌≡◌, ap, ◌∙◌, List, [], ◌∷◌, ℕ, suc, ◌+◌, ◌*◌, ◌-◌, ◌<◌, ◌≤◌, length, drop, get_or, drop-cons, arith, None}
use Rattle.std.proofs.lemmas.Grind.{common_steps}
use borrow.Author.Tests.{lt-leb}
use Rattle.paper.specs.Clauses.{every}
use Rattle.paper.specs.Texts.{digit, value_from, value}
use Rattle.numerals.specs.Numerals.{numeral_of}

-- A value only grows.
grows : (v : ℕ) (bytes : List ℕ) → v ≤ value_from v bytes
grows v [] = omega arith
grows v (b ∷ bytes) = let more = grows (10 * v + (b - 48)) bytes in omega (arith, more)

-- The digits before place i have value v.
pub record Read (word : List ℕ) (most v i : ℕ) : Type 0 where
  pub digits : every digit word ≡ every digit (drop i word)
  pub values : value word ≡ value_from v (drop i word)
  pub small : v ≤ most
  pub within : i ≤ length word

-- One digit more, and the value is too large: so is that of the whole word.
pub too_large : (word : List ℕ) (most v i : ℕ) → Read word most v i → i < length word → most < 10 * v + (get_or word i 0 - 48)
    → None ≡ numeral_of most word
too_large word most v i k h l =
    let next : value word ≡ value_from (10 * v + (get_or word i 0 - 48)) (drop (suc i) word) =
    k.values ∙ ap (value_from v) (drop-cons word i 0 h) in
    let more = grows (10 * v + (get_or word i 0 - 48)) (drop (suc i) word) in
    let large : most < value word = omega (arith, l, more, next) in
    rw (lt-leb (value word) most large) (grind (arith, common_steps))
