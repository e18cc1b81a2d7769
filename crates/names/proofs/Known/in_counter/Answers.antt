-- `in_counter` meets its contract: the width of a reached session has a stride that is not 0.
use Rattle.std.proofs.Common.{◌≡◌, ap, ◌%◌, arith}
use lib.Dec.{ltb}
use Rattle.paper.specs.Counters.{variables, variables_of}
use Rattle.paper.proofs.Trees.{by_inputs}
use Rattle.paper.proofs.Reach.{reached_narrow}
use Rattle.names.proofs.Names.{by_size}
use Rattle.names.proofs.Known.in_counter.Goals as goal

pub returns-then-stride-eq0 : goal.returns-then-stride-eq0
returns-then-stride-eq0 c s k w =
    let some : c.args.self.width.stride ≡ 384 = rw (w, reached_narrow s k.reached) in
    absurd (omega arith)

pub returns : goal.returns
returns c s k w =
    let size = c.size_of-inputs.ensures _ _ _ k.inputs _ k.counters in
    rw (← w)
    (ap (ltb (c.args.past % c.args.self.width.stride))
    (by_size variables variables_of (λ xs. (by_inputs xs).0) s k.reached _ _ _ size c.variables_of.ensures.0))
