-- A counter has few inputs, so the number of the true ones fits a byte.
use Rattle.std.proofs.Common.{arith}
use Rattle.std.proofs.lemmas.Grind.{common_steps}
use Rattle.weigh.proofs.Counters.{few_true}
use Rattle.weigh.proofs.Found.true_count.Goals as goal

pub overflow_cast-result : goal.overflow_cast-result
overflow_cast-result c = grind (arith, common_steps, few_true)
