-- The clause that a family and a number name, of the two families whose clauses stand whole in a room.
use Rattle.std.specs.Prelude.{List, [], ℕ, eqb, get_or}
use Rattle.paper.specs.Clauses.{Clause, pick}

-- Family 1 is the rules, family 4 the derived clauses. For another family or an absent number, an empty clause.
abbrev pub look_up : List Clause → List Clause → ℕ → ℕ → Clause
look_up rules derived family number =
    pick (eqb family 1) (get_or rules number []) (pick (eqb family 4) (get_or derived number []) [])
