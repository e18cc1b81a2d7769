-- Truths in a word: the number of its ones is how many are true.
use mathlib.Core.Path.{◌≡◌, refl, ap, ◌∙◌}
use mathlib.Core.Bool.{Bool, true, false}
use mathlib.Core.List.{List, [], ◌∷◌, ◌++◌, map}
use Prim.Native.Nat.{ℕ, ◌+◌, ◌*◌, ◌^◌, ◌<◌, ◌≤◌}
use native.Mathlib.Nat.{pow-suc}
use native.Mathlib.Numerals.{add-one}
use native.Mathlib.Omega.{arith}
use lib.Count.{ones, ones_in, ones_cat}
use lib.Dec.{ltb}
use lib.ListN.{length, drop, get_or}
use lib.Seq.{drop-cons}
use Rattle.paper.specs.Clauses.{Truth, only}
use Rattle.paper.proofs.Trees.{true_among}
use Rattle.truths.specs.Truths.{bit_of, true_bytes}

-- ── A word ──

one_bit : (b : Bool) → (only b 1 ≤ 1) × (ones (only b 1) ≡ only b 1)
unfolding ones ones_in
one_bit true = (omega arith, refl)
one_bit false = (omega arith, refl)

module _ (word byte : ℕ) where
  -- The word has one digit more, and room for it below 64.
  pub wider : (i : ℕ) → word < 2 ^ i → word * 2 + bit_of byte < 2 ^ (i + 1)
  wider i h = omega (arith, (one_bit (ltb 0 byte)).0, ap (λ n. 2 ^ n) (add-one i), pow-suc 2 i)

  pub one_more : ones (word * 2 + bit_of byte) ≡ ones word + bit_of byte
  one_more =
      let b = one_bit (ltb 0 byte) in
      ones_cat 1 word (bit_of byte) (omega arith) ∙ ap (λ n. ones word + n) b.1

-- ── A list of truths ──

pub at_most : (xs : List ℕ) → true_bytes xs ≤ length xs
unfolding true_bytes
at_most [] = omega arith
at_most (x ∷ xs) = omega (arith, at_most xs, (one_bit (ltb 0 x)).0)

pub next : (xs : List ℕ) (i : ℕ) → i < length xs → true_bytes (drop i xs) ≡ bit_of (get_or xs i 0) + true_bytes (drop (i + 1) xs)
unfolding true_bytes
next xs i h = rw (add-one i, drop-cons xs i 0 h)

pub apart : (xs ys : List ℕ) → true_bytes (xs ++ ys) ≡ true_bytes xs + true_bytes ys
unfolding true_bytes
apart [] ys = omega arith
apart (x ∷ xs) ys = rw (apart xs ys) (omega arith)

-- ── The paper's count ──

same_bit : (b : Bool) → bit_of (only b 1) ≡ only b 1
same_bit true = refl
same_bit false = refl

pub true_among_lem : (t : Truth) (xs truths : List ℕ) → truths ≡ map (λ v. only (t v) 1) xs → true_bytes truths ≡ true_among t xs
unfolding true_bytes
true_among_lem t [] truths e = rw e
true_among_lem t (x ∷ xs) truths e = rw (e, same_bit (t x), true_among_lem t xs (map (λ v. only (t v) 1) xs) refl)
