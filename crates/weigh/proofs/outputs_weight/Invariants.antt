-- The sum so far is that of the places passed.
use Rattle.std.proofs.Common.{◌≡◌, ◌*◌, ◌^◌, ◌≤◌, true, get_or}
use Rattle.weigh.specs.Weighing.{output_sum}
use Rattle.weigh.proofs.outputs_weight.Given as goal

abbrev pub invariant-loop-output : goal.invariant-loop-output
invariant-loop-output l =
    record {
      fits : l.sum ≤ 2 ^ 32 * l.output;
      same : l.sum ≡ output_sum (λ v. true) (λ i. get_or l.outputs i 0) l.first l.output;
    }
