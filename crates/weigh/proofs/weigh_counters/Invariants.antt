-- The counters passed have their true inputs counted, and the sum so far is theirs.
use Rattle.std.proofs.Common.{◌≡◌, ◌*◌, ◌^◌, ◌≤◌, ℕ}
use Rattle.paper.specs.Clauses.{Truth}
use Rattle.paper.specs.Session.{Session}
use Rattle.weigh.specs.Weighing.{counter_sum}
use Rattle.weigh.specs.Marks.{Marked, count_mark, OverCounters}
use Rattle.weigh.proofs.weigh_counters.Given as goal

abbrev pub invariant-loop-number : goal.invariant-loop-number
invariant-loop-number l =
    record {
      fits : l.sum ≤ 2 ^ 40 * l.number;
      weighed :
          (s : Session) (a t : Truth) (f : ℕ → ℕ) (size : ℕ)
          → OverCounters s a t f l.width size l.count l.counters.literals.now l.counters.ends.now l.outputs l.broken → Marked size l.fn.counts 0 (count_mark s t)
          → Marked size l.counts l.number (count_mark s t) × (l.sum ≡ counter_sum l.width s.work.counters t f l.number);
    }
