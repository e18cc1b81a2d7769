-- A weight spread over the variables of a list, and over the root outputs that a new counter's weight goes to.
use mathlib.Core.Path.{◌≡◌, refl, fun_ext}
use mathlib.Core.List.{List, [], ◌∷◌, ◌++◌}
use Prim.Native.Nat.{ℕ, zero, suc, ◌+◌, ◌<◌, ◌≤◌}
use native.Mathlib.Nat.{add-zero, add-suc, suc-add}
use native.Mathlib.Numerals.{add-one}
use native.Mathlib.Omega.{arith}
use borrow.Author.Tests.{eq-eqb, ne_eqb}
use Rattle.paper.specs.Clauses.{from}
use Rattle.paper.specs.Session.{spread, upper_outputs}
use Rattle.weights.specs.Weights.{gained, lost}

module _ (w : ℕ) where
  pub spread_on : (x : ℕ) → spread w (x ∷ []) x ≡ w
  spread_on x = rw (eq-eqb x x refl) (omega arith)

  pub spread_off : (x v : ℕ) → (v ≡ x → ⊥) → spread w (x ∷ []) v ≡ 0
  spread_off x v d = rw (ne_eqb v x d)

  spread-append : (xs ys : List ℕ) (v : ℕ) → spread w (xs ++ ys) v ≡ spread w xs v + spread w ys v
  spread-append [] ys v = omega arith
  spread-append (x ∷ xs) ys v = omega (arith, spread-append xs ys v)

  -- One variable after the others.
  module _ (f : ℕ → ℕ) (xs : List ℕ) (x : ℕ) where
    pub gained_more : gained (gained f w xs) w (x ∷ []) ≡ gained f w (xs ++ (x ∷ []))
    gained_more = fun_ext (λ v. omega (arith, spread-append xs (x ∷ []) v))

    pub lost_more : lost (lost f w xs) w (x ∷ []) ≡ lost f w (xs ++ (x ∷ []))
    lost_more = fun_ext (λ v. omega (arith, spread-append xs (x ∷ []) v))

  -- ── Root outputs 2 to m ──

  from_past : (a n v : ℕ) → a + n ≤ v → spread w (from a n) v ≡ 0
  from_past a zero v h = refl
  from_past a (suc n) v h = rw (ne_eqb v a (λ e. omega arith), from_past (suc a) n v (omega arith))

  pub upper_past : (start m v : ℕ) → start + m ≤ v → spread w (upper_outputs start m) v ≡ 0
  upper_past start zero v h = refl
  upper_past start (suc m) v h = from_past (suc start) m v (omega arith)

from_more : (a n : ℕ) → from a (suc n) ≡ from a n ++ ((a + n) ∷ [])
from_more a zero = rw (add-zero a)
from_more a (suc n) = rw (from_more (suc a) n, add-suc a n, suc-add a n)

pub upper_more : (start t : ℕ) → 0 < t → upper_outputs start (t + 1) ≡ upper_outputs start t ++ ((start + t) ∷ [])
upper_more start zero h = absurd (omega arith)
upper_more start (suc t) h = rw (add-one (suc t), from_more (suc start) t, suc-add start t, ← (add-suc start t))
