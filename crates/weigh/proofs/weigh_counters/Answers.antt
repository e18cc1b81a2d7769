-- Each turn weighs one counter, by the counts of those before it.
use Rattle.std.proofs.Common.{◌≡◌, arith}
use Rattle.std.proofs.lemmas.Grind.{common_steps}
use Rattle.weigh.specs.Weighing.{counter_sum}
use Rattle.weigh.proofs.Sums.{counter_more}
use Rattle.weigh.proofs.weigh_counters.Goals as goal

pub loop-number-init : goal.loop-number-init
unfolding counter_sum
loop-number-init c = grind (arith, common_steps)

pub loop-number-preserved : goal.loop-number-preserved
loop-number-preserved c =
    record {
      fits = omega arith;
      weighed =
          λ s a t f size W M.
          let before = c.loop-number.invariant.weighed s a t f size W M in
          let turn = c.weigh_counter-sum.ensures.1 s a t f size W (omega arith) before.0 in
          let more = counter_more c.args.width s.work.counters t f c.loop-number.number in
          (turn.0, omega arith);
    }

pub returns : goal.returns
returns c =
    let e : c.loop-number.number ≡ c.args.count = omega arith in
    (omega arith, λ s a t f size W M. rw e at (c.loop-number.invariant.weighed s a t f size W M))
