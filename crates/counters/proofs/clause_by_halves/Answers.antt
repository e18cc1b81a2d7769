-- `counters::clause_by_halves` meets its contract: the clause is one of the node's own that the search finds.
use Rattle.std.proofs.Common.{arith, refl}
use Rattle.counters.proofs.Halves.{clause_single}
use Rattle.counters.proofs.Search.{by_node}
use Rattle.counters.proofs.clause_by_halves.Goals as goal

pub returns-then-part-lt2 : goal.returns-then-part-lt2
returns-then-part-lt2 c =
    rw (by_node c.args.inputs.now c.args.start c.args.number _ c.node_by_halves.ensures, clause_single _ _ _ c.if-part-lt2.true)
    (record { few = omega arith; whole = refl; padded = refl })

pub returns : goal.returns
returns c = rw (by_node c.args.inputs.now c.args.start c.args.number _ c.node_by_halves.ensures) c.node_clause.ensures
