-- Each turn adds the weight at one place of the outputs.
use Rattle.std.proofs.Common.{◌≡◌, ◌∙◌, arith}
use Rattle.std.proofs.lemmas.Grind.{common_steps}
use Rattle.weigh.specs.Weighing.{output_sum}
use Rattle.weigh.proofs.Sums.{output_more, outputs_stand}
use Rattle.weigh.proofs.outputs_weight.Goals as goal

pub loop-output-init : goal.loop-output-init
unfolding output_sum
loop-output-init c = grind (arith, common_steps)

pub loop-output-preserved : goal.loop-output-preserved
loop-output-preserved c = grind (arith, common_steps, output_more)

pub returns : goal.returns
returns c =
    let e : c.loop-output.output ≡ c.args.count = omega arith in (
      omega arith,
      λ f is h l.
          (rw (e, c.first_place-first.ensures.0) at c.loop-output.invariant.same)
          ∙ outputs_stand c.args.width c.args.outputs.now f is c.args.counter c.args.count h l,
    )
