-- A hint that fits at its place leads on, and one that ends the derivation too early is the misfit.
use Rattle.std.proofs.Common.{arith}
use Rattle.paper.proofs.Lists.{every-at}
use Rattle.derive.proofs.Following.{follow_early, follow_forces}
use Rattle.derive.proofs.follow_hints.Goals as goal

pub returns-in-AllFalse-2-clause-answer : goal.returns-in-AllFalse-2-clause-answer
returns-in-AllFalse-2-clause-answer c s r H width tally named = grind (arith, follow_early, every-at)

pub loop-i-preserved : goal.loop-i-preserved
loop-i-preserved c = grind (arith, follow_forces, every-at)
