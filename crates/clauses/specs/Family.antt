-- A family of clauses in two rooms and a count: the literals of one clause after the other, where each clause ends, and zeros
-- after both. Rules, wishes, derived clauses and the inputs of counters are each such a family. The rooms are a function of the
-- family, so that to say which family they hold pins every byte of them.
use Rattle.std.specs.Prelude.{◌≡◌, Bool, true, false, not, List, [], ◌∷◌, ◌++◌, ℕ, zero, suc, ◌+◌, ◌-◌, ◌^◌, ◌≤◌, ◌<◌, ℤ, pos, length, get_or, replicate}
use Rattle.paper.specs.Sizes.{Room}
use Rattle.paper.specs.Clauses.{Clause, literals_in}
use Rattle.paper.specs.Steps.{full}

-- The clauses end to end.
unfoldable pub flat : List Clause → Clause
flat [] = []
flat (c ∷ cs) = c ++ flat cs

-- Where each clause ends, with the first one beginning at `start`.
unfoldable pub ends_from : ℕ → List Clause → List ℕ
ends_from start [] = []
ends_from start (c ∷ cs) = (start + length c) ∷ ends_from (start + length c) cs

unfoldable pub flat_room : ℕ → List Clause → List ℤ
flat_room size family = flat family ++ replicate (size - literals_in family) (pos 0)

unfoldable pub ends_room : ℕ → List Clause → List ℕ
ends_room most family = ends_from 0 family ++ replicate (most - length family) 0

-- A room for `size` literals, a room for `most` ends and a count hold this family.
pub record Holds (size most : ℕ) (literals : List ℤ) (ends : List ℕ) (count : ℕ) (family : List Clause) : Type 0 where
  pub literals_are : literals ≡ flat_room size family
  pub ends_are : ends ≡ ends_room most family
  pub count_is : count ≡ length family
  pub fits : literals_in family ≤ size
  pub few : length family ≤ most

abbrev pub room_of : ℕ → ℕ → Room
room_of size most = record { clauses = most; literals = size }

-- Where a clause begins: where the one before it ends.
abbrev pub start_in : List ℕ → ℕ → ℕ
start_in ends zero = 0
start_in ends (suc number) = get_or ends number 0

-- What appending a clause answers and leaves. Where it is refused, the rooms are left as they were, whatever they held. An end is
-- a number of 32 bits, which is why a room that could outgrow that is kept out.
pub record Appended
    (literals : List ℤ) (ends : List ℕ) (count : ℕ) (clause : Clause) (taken : Bool) (literals' : List ℤ) (ends' : List ℕ)
    : Type 0 where
  pub refused : taken ≡ false → (literals' ≡ literals) × (ends' ≡ ends)
  pub answer :
      (size most : ℕ) (family : List Clause) → size < 2 ^ 32 → Holds size most literals ends count family
      → taken ≡ not (full (room_of size most) family clause)
  pub stored :
      (size most : ℕ) (family : List Clause) → Holds size most literals ends count family → taken ≡ true
      → Holds size most literals' ends' (count + 1) (family ++ (clause ∷ []))
