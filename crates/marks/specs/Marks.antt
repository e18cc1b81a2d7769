-- Marking the variables of a clause in a room of bytes, to find one that stands twice, and taking the marks away again.
use Rattle.std.specs.Prelude.{◌≡◌, Bool, true, ◌&&◌, List, [], ◌∷◌, ℕ, zero, suc, ◌≤◌, eqb, pos, length, get_or, set}
use Rattle.paper.specs.Clauses.{Clause, variable}

-- Each variable is found unmarked, with those before it marked.
abbrev pub fresh : List ℕ → Clause → Bool
fresh room [] = true
fresh room (l ∷ c) = eqb (get_or room (variable l) 0) 0 && fresh (set room (variable l) 1) c

-- The room without the marks of the first so many literals, the last of them first.
abbrev pub unmarked : List ℕ → Clause → ℕ → List ℕ
unmarked room c zero = room
unmarked room c (suc i) = unmarked (set room (variable (get_or c i (pos 0))) 0) c i

-- So many literals were marked: all of them exactly where all are fresh.
pub record Marked (room : List ℕ) (c : Clause) (count : ℕ) (room' : List ℕ) : Type 0 where
  pub within : count ≤ length c
  pub undone : unmarked room' c count ≡ room
  pub answer : eqb count (length c) ≡ fresh room c
