-- The reading of a clause under a room, and of two parts of it together: so a clause can be read in pieces that stand apart.
use Rattle.std.specs.Prelude.{List, [], ◌∷◌, ℕ}
use Rattle.paper.specs.Clauses.{Clause}
use Rattle.paper.specs.Derivation.{with_open, with_literal}
use Rattle.paper.specs.declared.Reading.{Reading}
use Rattle.paper.specs.declared.Reading.TheVariants.{AllFalse, Forces, AlreadyTrue, StillOpen}
use Rattle.values.specs.Values.{literal_in}

abbrev pub read_in : List ℕ → Clause → Reading
read_in room [] = AllFalse
read_in room (l ∷ c) = with_literal l (literal_in room l) (read_in room c)

-- Two literals or more are unassigned: only a true one would settle it.
abbrev pub open_with : Reading → Reading
open_with AllFalse = StillOpen
open_with (Forces l) = StillOpen
open_with AlreadyTrue = AlreadyTrue
open_with StillOpen = StillOpen

abbrev pub both : Reading → Reading → Reading
both AllFalse r = r
both (Forces l) r = with_open l r
both AlreadyTrue r = AlreadyTrue
both StillOpen r = open_with r
