-- `counters::node_by_halves` meets its contract. The number of inputs falls with each call.
use Rattle.counters.proofs.+node_by_halves.Given as goal

abbrev pub decreases-node_by_halves : goal.decreases-node_by_halves
decreases-node_by_halves l = l.node.now.size
