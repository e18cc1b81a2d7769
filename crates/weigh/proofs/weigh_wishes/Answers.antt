-- Each turn marks one wish and adds its weight where it is broken.
use Rattle.std.proofs.Common.{◌≡◌, arith}
use Rattle.std.proofs.lemmas.Grind.{common_steps}
use Rattle.weigh.specs.Weighing.{wish_sum}
use Rattle.weigh.proofs.Sums.{wish_more}
use Rattle.weigh.proofs.weigh_wishes.Goals as goal

pub loop-number-init : goal.loop-number-init
unfolding wish_sum
loop-number-init c = grind (arith, common_steps)

pub loop-number-preserved : goal.loop-number-preserved
loop-number-preserved c =
    record {
      fits = omega arith;
      weighed =
          λ s t f size W M.
          let before = c.loop-number.invariant.weighed s t f size W M in
          let turn = c.weigh_wish-sum.ensures.1 s t f size W (omega arith) before.0 in
          let more = wish_more t f c.loop-number.number in
          (turn.0, omega arith);
    }

pub returns : goal.returns
returns c =
    let e : c.loop-number.number ≡ c.args.count = omega arith in
    (omega arith, λ s t f size W M. rw e at (c.loop-number.invariant.weighed s t f size W M))
