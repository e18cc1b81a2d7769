-- One counter: its true inputs are counted, and what its true outputs weigh is answered.
use Rattle.weigh.proofs.Counters.{counted, counter_marked, outputs_weigh}
use Rattle.weigh.proofs.weigh_counter.Goals as goal

pub returns : goal.returns
returns c =
    let counts = c.true_count-true_inputs.ensures in (
      c.outputs_weight.ensures.0,
      λ s x t f size W h M.
          let is = c.clause.ensures _ _ _ (counted W) in (
            counter_marked W c.args.number h M _ is _ counts _ c.store.ensures,
            outputs_weigh W c.args.number h M _ is _ counts _ c.outputs_weight.ensures.1,
          ),
    )
