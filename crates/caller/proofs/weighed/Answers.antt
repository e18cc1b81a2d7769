-- Its own work rooms are zeros, with a place for every wish and every counter.
use Rattle.std.proofs.Common.{refl}
use Rattle.paper.proofs.Costs.{reached_sound}
use Rattle.paper.proofs.Reach.{reached_narrow}
use Rattle.caller.proofs.weighed.Goals as goal

pub returns : goal.returns
returns c = λ s reached counts wishes counters weights met.
    let sound = reached_sound s reached in
    let few_counters = rw (reached_narrow s reached) at sound.few_counters in
    (c.weigh.ensures s 512 128 reached counts wishes counters weights refl sound.few refl few_counters).3 met
