-- A trail that has the place takes the literal.
use Rattle.std.proofs.Common.{arith}
use Rattle.std.proofs.lemmas.Grind.{common_steps}
use Rattle.marks.proofs.Marks.{unmarked_next}
use Rattle.marks.proofs.assign_next.Goals as goal

pub returns-clause-undone : goal.returns-clause-undone
returns-clause-undone c = grind (arith, common_steps, unmarked_next)
