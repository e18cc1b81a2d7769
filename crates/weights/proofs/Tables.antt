-- Tables of a function, place by place.
use mathlib.Core.Path.{◌≡◌, refl, ap}
use mathlib.Core.List.{List, ◌∷◌}
use Prim.Native.Nat.{ℕ, zero, suc, ◌<◌}
use native.Mathlib.Omega.{arith}
use lib.ListN.{length, get_or, set, replicate}
use Rattle.weights.specs.Weights.{table}

pub length_table : (n : ℕ) (f : ℕ → ℕ) → length (table n f) ≡ n
unfolding table
length_table zero f = refl
length_table (suc n) f = ap suc (length_table n (λ i. f (suc i)))

pub get_d_table : (n : ℕ) (f : ℕ → ℕ) (i : ℕ) → i < n → get_or (table n f) i 0 ≡ f i
unfolding table
get_d_table zero f i h = absurd (omega arith)
get_d_table (suc n) f zero h = refl
get_d_table (suc n) f (suc i) h = get_d_table n (λ j. f (suc j)) i (omega arith)

pub table_same : (n : ℕ) (f g : ℕ → ℕ) → ((i : ℕ) → i < n → f i ≡ g i) → table n f ≡ table n g
unfolding table
table_same zero f g e = refl
table_same (suc n) f g e =
    rw (e 0 (omega arith), table_same n (λ i. f (suc i)) (λ i. g (suc i)) (λ i h. e (suc i) (omega arith)))

-- A store at one place, which may lie past the end.
pub set_table : (n : ℕ) (f g : ℕ → ℕ) (i y : ℕ) → (i < n → y ≡ g i) → ((j : ℕ) → j < n → (j ≡ i → ⊥) → f j ≡ g j)
    → set (table n f) i y ≡ table n g
unfolding table
set_table zero f g i y here else = refl
set_table (suc n) f g zero y here else =
    rw (
      here (omega arith),
      table_same n (λ j. f (suc j)) (λ j. g (suc j)) (λ j h. else (suc j) (omega arith) (λ e. omega arith)),
    )
set_table (suc n) f g (suc i) y here else =
    rw (
      else 0 (omega arith) (λ e. omega arith),
      set_table n (λ j. f (suc j)) (λ j. g (suc j)) i y (λ h. here (omega arith))
          (λ j h d. else (suc j) (omega arith) (λ e. d (omega arith))),
    )

pub zero_table : (n : ℕ) → replicate n 0 ≡ table n (λ i. 0)
unfolding table
zero_table zero = refl
zero_table (suc n) = ap (λ (xs : List ℕ). 0 ∷ xs) (zero_table n)
