-- `counters::node_by_halves` meets its contract: each step goes down to the half that the clause is in.
use Rattle.std.proofs.Common.{arith}
use Rattle.paper.proofs.Trees.{table_rule}
use Rattle.counters.proofs.Search.{found_left, found_right}
use Rattle.counters.proofs.+node_by_halves.Goals as goal

pub node_by_halves-requires : goal.node_by_halves-requires
node_by_halves-requires t c =
    let rule = (table_rule c.args.node.now.size c.if-whole-lt2.false).0 in
    (omega arith, (omega arith, omega arith, omega arith))

pub returns-then-below-left : goal.returns-then-below-left
returns-then-below-left t c =
    let below = rw (c.clauses_of-left.ensures.0 (omega arith)) at c.if-below-left.true in
    found_left c.args.node.now c.if-whole-lt2.false c.if-whole-own.false _ below c.node_by_halves.ensures

pub overflow_add-node-4 : goal.overflow_add-node-4
overflow_add-node-4 t c =
    let rule = (table_rule c.args.node.now.size c.if-whole-lt2.false).0 in
    omega (arith, c.variables_of.ensures.0 (omega arith))

pub node_by_halves-requires-2 : goal.node_by_halves-requires-2
node_by_halves-requires-2 t c =
    let rule = (table_rule c.args.node.now.size c.if-whole-lt2.false).0 in
    let right = c.variables_of.ensures.0 (omega arith) in
    (omega arith, (omega arith, omega arith, omega arith))

pub returns : goal.returns
returns t c =
    let left = c.clauses_of-left.ensures.0 (omega arith) in
    let past-left = rw left at c.if-below-left.false in
    found_right c.args.node.now c.if-whole-lt2.false c.if-whole-own.false _ past-left
    (rw (left, c.variables_of.ensures.0 (omega arith)) at c.node_by_halves-2.ensures)
