-- `clause` meets its contract.
use Rattle.std.proofs.Common.{◌∙◌}
use Rattle.clauses.proofs.Family.{found}
use Rattle.clauses.proofs.FamilyRooms.clause.Goals as goal

pub returns : goal.returns
returns c = λ size most family H.
    c.part.ensures ∙ found H c.args.number _ _ c.start_of-start.ensures.0 c.start_of-end.ensures.0 c.if-count-number.false
