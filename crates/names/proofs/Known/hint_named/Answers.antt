-- The clauses of a counter are as many as its size tells.
use Rattle.std.proofs.Common.{ap}
use lib.Dec.{ltb}
use Rattle.paper.specs.Counters.{clauses, clauses_of}
use Rattle.paper.proofs.Trees.{by_inputs}
use Rattle.names.proofs.Names.{by_size}
use Rattle.names.proofs.Known.hint_named.Goals as goal

pub returns-in-Counter : goal.returns-in-Counter
returns-in-Counter c s k =
    let size = c.size_of-inputs.ensures _ _ _ k.inputs _ k.counters in
    rw c.in-Counter.is (ap (ltb c.in-Counter.number) (by_size clauses clauses_of (λ xs. (by_inputs xs).1) s k.reached c.in-Counter.counter _ _ size c.clauses_of.ensures.0))
