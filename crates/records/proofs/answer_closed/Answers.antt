-- An opening comes as ever.
use Rattle.std.proofs.Common.{rules, refl}
use Rattle.paper.specs.Kinds.{kind_number}
use Rattle.records.proofs.Answered.{open_answered}
use Rattle.records.proofs.answer_closed.Goals as goal

pub returns-in-Open : goal.returns-in-Open
returns-in-Open c = λ s rooms low high k zero.
    open_answered _ _ low high s k c.args.payload.now _ low high (refl, refl) (kind_number c.args.kind) (search rules) (c.open_record.ensures s k.reached k.counts)
