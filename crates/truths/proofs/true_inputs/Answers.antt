-- Each turn counts one word of the truths that are still to come.
use Rattle.std.proofs.Common.{◌∙◌, ap, arith}
use Rattle.truths.specs.Truths.{true_bytes}
use Rattle.truths.proofs.Ones.{at_most, apart}
use Rattle.truths.proofs.true_inputs.Goals as goal

pub overflow_add-count : goal.overflow_add-count
overflow_add-count c =
    let parts = ap true_bytes c.in-Some.ensures.steps.1.0 ∙ apart c.in-Some.block.now _ in
    omega (arith, at_most c.args.truths.now)

pub loop-block-preserved : goal.loop-block-preserved
loop-block-preserved c =
    let parts = ap true_bytes c.in-Some.ensures.steps.1.0 ∙ apart c.in-Some.block.now _ in
    record { size = c.in-Some.ensures.steps.0 ∙ c.loop-block.invariant.size; together = omega arith }

pub returns : goal.returns
returns c = omega (arith, c.in-None.ensures.steps, at_most c.loop-block.block-iterator.rest.now)
