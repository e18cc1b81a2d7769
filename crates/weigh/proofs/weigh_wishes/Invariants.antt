-- The wishes passed are marked, and the sum so far is theirs.
use Rattle.std.proofs.Common.{◌≡◌, ◌*◌, ◌^◌, ◌≤◌, ℕ}
use Rattle.paper.specs.Clauses.{Truth}
use Rattle.paper.specs.Session.{Session}
use Rattle.paper.specs.Truth.{arranged}
use Rattle.weigh.specs.Weighing.{wish_sum}
use Rattle.weigh.specs.Marks.{Marked, broken_mark, OverWishes}
use Rattle.weigh.proofs.weigh_wishes.Given as goal

abbrev pub invariant-loop-number : goal.invariant-loop-number
invariant-loop-number l =
    record {
      fits : l.sum ≤ 2 ^ 32 * l.number;
      weighed :
          (s : Session) (t : Truth) (f : ℕ → ℕ) (size : ℕ)
          → OverWishes s (arranged l.arrangement) t f size l.count l.wishes.literals.now l.wishes.ends.now l.left → Marked size l.fn.broken 0 (broken_mark t)
          → Marked size l.broken l.number (broken_mark t) × (l.sum ≡ wish_sum t f l.number);
    }
