-- What a reached session names has a place in its rooms of zeros; and of a clause that is too long nothing is told.
use Rattle.std.proofs.Common.{◌∙◌, arith}
use Rattle.names.proofs.Names.{named_within}
use Rattle.names.proofs.Known.refusal.Goals.{then-clause-most, else-clause-most}
use Rattle.names.proofs.Known.refusal.Goals as goal

pub returns-clause-answer : goal.returns-clause-answer
returns-clause-answer c s k w zeros =
    c.clause_refusal.ensures.answer zeros.size s.sheet.width _ zeros.are (named_within s k.reached _ zeros) (rw w)
    (λ few. elim c.if-clause-most.branch [
      | then-clause-most v ↦ v.all_named-is ∙ v.all_named-all_named.ensures s k w
      | else-clause-most v ↦ absurd (omega (arith, few, v.if-clause-most.false))
    ])
