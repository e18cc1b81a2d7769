-- A derivation over a room of values.
use Rattle.std.specs.Prelude.{true, false, List, [], ◌∷◌, map, ℕ, suc, ℤ, Option, Some, None}
use Rattle.paper.specs.Clauses.{Clause}
use Rattle.paper.specs.Session.{Session, hint_in, hint_clause}
use Rattle.paper.specs.Derivation.{Value, unassigned, is, assign, ending, follow}
use Rattle.values.specs.Values.{literal_in, assigned_in}
use Rattle.readings.specs.Readings.{read_in}

-- The clause that a hint names, the hint being the number of its 8 bytes.
abbrev pub clause_of : Session → ℕ → Clause
clause_of s word = hint_clause s.sheet s.work (hint_in word)

abbrev pub hinted : Session → List ℕ → List Clause
hinted s hints = map (clause_of s) hints

-- The paper's `misfit`, with the assignment in a room.
abbrev pub misfit_in : List ℕ → ℕ → List Clause → ℕ
misfit_in room place [] = place
misfit_in room place (c ∷ cs) =
    follow (read_in room c) place (ending place cs) (λ l. misfit_in (assigned_in room (assign l true)) (suc place) cs)

-- A literal is taken as false where it has no value yet.
abbrev pub false_in : List ℕ → ℤ → Value → List ℕ
false_in room l unassigned = assigned_in room (assign l false)
false_in room l (is b) = room

abbrev pub assumed_in : List ℕ → Clause → List ℕ
assumed_in room [] = room
assumed_in room (l ∷ c) = assumed_in (false_in room l (literal_in room l)) c

-- The place of a hint, counted from 1; 0 where there is none.
abbrev pub place_of : Option ℕ → ℕ
place_of None = 0
place_of (Some place) = place
