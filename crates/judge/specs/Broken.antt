-- The lowest rule that an arrangement breaks, by its number.
use Rattle.std.specs.Prelude.{List, ℕ, Option, Some, None}
use Rattle.paper.specs.Clauses.{Clause, Truth, clause_true, every, pick}
use Rattle.paper.specs.Steps.{met_before}

-- Before it as many rules are met as its number says; none is broken where all are met.
abbrev pub lowest_broken : Truth → List Clause → Option ℕ
lowest_broken a rules = pick (every (clause_true a) rules) None (Some (met_before a rules))
