-- The sum so far, with what is still to be read, is the cost; in 64 bits it has room for every weight still to come.
use Rattle.std.proofs.Common.{◌≡◌, ◌+◌, ◌*◌, ◌^◌, ◌≤◌, length, drop}
use Rattle.paper.specs.Session.{Session}
use Rattle.paper.specs.Truth.{arranged, cost_of}
use Rattle.rooms.specs.Held.{HeldWishes}
use Rattle.judge.proofs.cost_of.Given as goal

abbrev pub invariant-loop-number : goal.invariant-loop-number
invariant-loop-number l =
    record {
      fits : l.sum ≤ 2 ^ 32 * l.number;
      same :
          (s : Session) → l.count ≡ length s.sheet.wishes → HeldWishes l.wishes.literals.now l.wishes.ends.now l.weights s
          → l.sum + cost_of (arranged l.arrangement) (drop l.number s.sheet.wishes) ≡ cost_of (arranged l.arrangement) s.sheet.wishes;
    }
