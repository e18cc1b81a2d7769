-- `counters::counter_clause` meets its contract: the largest counter has 384 variables.
use Rattle.std.proofs.Common.{arith, length}
use Rattle.counters.proofs.Halves.{variables_few}
use Rattle.counters.proofs.counter_clause.Goals as goal

pub clause_by_halves-requires : goal.clause_by_halves-requires
clause_by_halves-requires c =
    let few = variables_few (length c.args.inputs.now) c.if-inputs-gt64.false in
    (c.if-inputs-gt64.false, omega arith)
