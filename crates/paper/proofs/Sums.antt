-- Sums of weights over variable numbers.
use mathlib.Core.Path.{◌≡◌, refl, ◌∙◌}
use mathlib.Core.Bool.{Bool, true, false}
use mathlib.Core.List.{List, [], ◌∷◌}
use mathlib.Core.Logic.{◌≢◌}
use Prim.Native.Nat.{ℕ, zero, suc, ◌+◌, ◌*◌, ◌<◌, ◌≤◌, min}
use native.Mathlib.Omega.{arith}
use native.Mathlib.Nat.{add-suc}
use lib.Dec.{eqb, ltb}
use borrow.Author.Tests.{ne_eqb, eqb-true, eqb-false, ltb-true, ltb-false}
use Rattle.paper.specs.Clauses.{Truth, only, from}
use Rattle.paper.specs.Session.{spread}
use Rattle.paper.specs.Truth.{sum_below, weight_on}
use Rattle.paper.proofs.Lists.{All}
use Rattle.paper.proofs.Trees.{true_among}

only_add : (b : Bool) (x y : ℕ) → only b (x + y) ≡ only b x + only b y
only_add true x y = refl
only_add false x y = refl

only_zero : (b : Bool) → only b 0 ≡ 0
only_zero true = refl
only_zero false = refl

module _ (t : Truth) where
  pub weight_add : (n : ℕ) (f g : ℕ → ℕ) → weight_on t n (λ v. f v + g v) ≡ weight_on t n f + weight_on t n g
  unfolding sum_below
  weight_add zero f g = refl
  weight_add (suc n) f g = rw (weight_add n f g, only_add (t n) (f n) (g n)) (omega arith)

  pub weight_zero : (n : ℕ) (f : ℕ → ℕ) → ((v : ℕ) → v < n → f v ≡ 0) → weight_on t n f ≡ 0
  unfolding sum_below
  weight_zero zero f h = refl
  weight_zero (suc n) f h = rw (weight_zero n f (λ v l. h v (omega arith)), h n (omega arith)) (rw (only_zero (t n)))

  -- Weight on one variable.
  pub weight_point : (n x w : ℕ) → x < n → weight_on t n (λ v. only (eqb v x) w) ≡ only (t x) w
  unfolding sum_below
  weight_point zero x w h = absurd (omega arith)
  weight_point (suc n) x w h = go (eqb n x) refl (weight_point n x w)
    where
      go : (b : Bool) → eqb n x ≡ b → (x < n → weight_on t n (λ v. only (eqb v x) w) ≡ only (t x) w)
          → weight_on t (suc n) (λ v. only (eqb v x) w) ≡ only (t x) w
      go true e ih =
          let g : n ≡ x = eqb-true _ _ e in
          rw (e, ← g, weight_zero n (λ v. only (eqb v n) w) (λ v l. rw (ne_eqb v n (λ e. omega arith)))) (omega arith)
      go false e ih =
          let g : n ≢ x = eqb-false _ _ e in
          rw (e, ih (omega arith), only_zero (t n)) (omega arith)

  pub weight_spread : (n w : ℕ) (xs : List ℕ) → All (λ x. x < n) xs → weight_on t n (spread w xs) ≡ true_among t xs * w
  weight_spread n w [] a = weight_zero n (spread w []) (λ v l. refl) ∙ omega arith
  weight_spread n w (x ∷ xs) a =
      rw (weight_add n (λ v. only (eqb v x) w) (spread w xs), weight_point n x w a.0, weight_spread n w xs a.1) (go (t x))
    where
      go : (b : Bool) → only b w + true_among t xs * w ≡ (only b 1 + true_among t xs) * w
      go true = omega arith
      go false = omega arith

  -- Of a counter with c true inputs, the true ones among n outputs after the first i.
  pub true_from : (start c n i : ℕ) → ((k : ℕ) → k < i + n → t (start + k) ≡ ltb k c)
      → true_among t (from (start + i) n) + min c i ≡ min c (i + n)
  true_from start c zero i f = omega arith
  true_from start c (suc n) i f =
      rw (f i (omega arith)) (go (ltb i c) refl (rw (add-suc start i) at (true_from start c n (suc i) (λ k l. f k (omega arith)))))
    where
      go : (x : Bool) → ltb i c ≡ x → true_among t (from (suc (start + i)) n) + min c (suc i) ≡ min c (suc i + n)
          → only x 1 + true_among t (from (suc (start + i)) n) + min c i ≡ min c (i + suc n)
      go true e ih = let h : i < c = ltb-true _ _ e in omega arith
      go false e ih = let h : c ≤ i = ltb-false _ _ e in omega arith
