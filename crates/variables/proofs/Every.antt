-- A test of every element of a list, from a place on, and as the library has it.
use mathlib.Core.Path.{◌≡◌, refl, ap}
use mathlib.Core.Bool.{Bool, ◌&&◌}
use mathlib.Core.List.{List, [], ◌∷◌}
use Prim.Native.Nat.{ℕ, ◌+◌, ◌<◌}
use native.Mathlib.Numerals.{add-one}
use lib.ListN.{length, drop, get_or}
use lib.Seq.{drop-cons}
use Rattle.std.specs.List.{list_all}
use Rattle.paper.specs.Clauses.{every}

-- A test of the elements from i on is a test of the one at i and of those after it.
pub every_from : {A : Type 0} (p : A → Bool) (xs : List A) (i : ℕ) (d : A) → i < length xs
    → every p (drop i xs) ≡ (p (get_or xs i d) && every p (drop (i + 1) xs))
every_from p xs i d h = rw (add-one, drop-cons xs i d)

-- The library's word for the same test.
pub every_all : {A : Type 0} (p : A → Bool) (xs : List A) → list_all p xs ≡ every p xs
every_all p [] = refl
every_all p (x ∷ xs) = ap (λ b. p x && b) (every_all p xs)
