-- `counters::node_clause` meets its contract.
use Rattle.std.proofs.Common.{arith, length}
use Rattle.paper.proofs.Trees.{table_rule}
use Rattle.counters.proofs.Halves.{left-length, right_length, own_clause}
use Rattle.counters.proofs.node_clause.Goals as goal

pub first_output-left-requires : goal.first_output-left-requires
first_output-left-requires c =
    let xs = c.args.inputs.now in
    let rule = (table_rule (length xs) c.requires.in_bounds.0).0 in
    omega (arith, left-length xs)

pub overflow_add-start-3 : goal.overflow_add-start-3
overflow_add-start-3 c =
    let xs = c.args.inputs.now in
    let rule = (table_rule (length xs) c.requires.in_bounds.0).0 in
    omega (arith, c.variables_of.ensures.0 (omega arith))

pub first_output-right-requires : goal.first_output-right-requires
first_output-right-requires c =
    let xs = c.args.inputs.now in
    let rule = (table_rule (length xs) c.requires.in_bounds.0).0 in
    omega (arith, right_length xs, c.variables_of.ensures.0 (omega arith))

pub returns : goal.returns
returns c =
    let right = rw (c.variables_of.ensures.0 (omega arith)) at c.first_output-right.ensures.value in
    rw (own_clause c.args.inputs.now c.requires.in_bounds.0 c.args.start c.args.number _ _ c.first_output-left.ensures.value right c.requires.number_bound)
    c.sum_clause.ensures
