-- Each turn is one law of Reading: what is still to come leads where the whole does.
use Rattle.std.proofs.Common.{length, ◌-◌}
use Rattle.literals.proofs.Reading.{Reading}
use Rattle.literals.proofs.read_literals.Given as goal

abbrev pub invariant-loop-found : goal.invariant-loop-found
invariant-loop-found l = Reading l.text l.at l.initial.room l.room l.place l.count

abbrev pub decreases-loop-found : goal.decreases-loop-found
decreases-loop-found l = length l.text - l.place
