-- Before each turn the first i literals are written.
use Rattle.output.proofs.Bytes.{Copying}
use Rattle.output.proofs.put_literals.Given as goal

abbrev pub invariant-loop-literal : goal.invariant-loop-literal
invariant-loop-literal l = Copying l.initial.out l.at l.literals l.out l.place l.literal-index
