-- What is written, with the items still to come, is the whole.
use Rattle.payload.proofs.Filling.{Filling}
use Rattle.payload.proofs.copy_cut.Given as goal

abbrev pub invariant-loop-item : goal.invariant-loop-item
invariant-loop-item g l = Filling g.T.Item.several l.bytes l.initial.items l.items l.left l.item-index
