-- A literal found unmarked is marked, and the invariant holds one place on.
use Rattle.std.proofs.Common.{arith}
use Rattle.std.proofs.lemmas.Grind.{common_steps}
use Rattle.marks.proofs.Marks.{unmarked_more, fresh_more}
use Rattle.marks.proofs.mark.Goals as goal

pub loop-count-preserved : goal.loop-count-preserved
loop-count-preserved c = grind (arith, common_steps, unmarked_more, fresh_more)
