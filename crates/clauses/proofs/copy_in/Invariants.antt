-- Before each turn the first literals are pasted.
use Rattle.std.proofs.Common.{◌≡◌}
use Rattle.std.proofs.Math.Seq.{paste}
use Rattle.clauses.proofs.copy_in.Given as goal

abbrev pub invariant-loop-place : goal.invariant-loop-place
invariant-loop-place l =
    record { pasted : l.literals ≡ paste l.initial.literals l.start l.clause l.place }
