-- What is written, with the items still to come, is the whole; each of those stands whole.
use Rattle.std.proofs.Common.{◌*◌, ◌-◌, ◌≤◌, length}
use Rattle.payload.proofs.Filling.{Filling}
use Rattle.payload.proofs.copy_whole.Given as goal

abbrev pub invariant-loop-item : goal.invariant-loop-item
invariant-loop-item g l =
    record {
      filling : Filling g.T.Item.several l.bytes l.initial.items l.items l.left l.item-index;
      there : g.T.Item.SIZE * (length l.initial.items - l.item-index) ≤ length l.left;
    }
