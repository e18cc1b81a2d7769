-- What is still to be read decides as the whole clause does.
use Rattle.std.proofs.Common.{◌≡◌, ◌≤◌, length, drop}
use Rattle.paper.specs.Clauses.{every}
use Rattle.paper.specs.Session.{Session, named_literal}
use Rattle.names.specs.Names.{Knows}
use Rattle.names.proofs.Known.all_named.Given as goal

abbrev pub invariant-loop-literal : goal.invariant-loop-literal
invariant-loop-literal l =
    record {
      within : l.literal-index ≤ length l.clause;
      same : (s : Session) → Knows l.self.tally l.self.counter_ends.now s → l.self.width ≡ s.sheet.width
          → every (named_literal s.sheet s.work) (drop l.literal-index l.clause) ≡ every (named_literal s.sheet s.work) l.clause;
    }
