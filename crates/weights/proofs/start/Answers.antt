-- `start` meets its contract.
use Rattle.std.proofs.Common.{refl}
use Rattle.paper.specs.Sizes.{wish_variable}
use Rattle.weights.proofs.Rooms.{started}
use Rattle.weights.proofs.start.Goals as goal

pub returns : goal.returns
returns c = λ u outputs f weighs h z.
    rw c.store.ensures (started weighs c.args.weight (wish_variable c.args.number) c.args.number refl h z)
