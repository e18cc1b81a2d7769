-- What is still to be read decides as all the hints do.
use Rattle.std.proofs.Common.{◌≡◌, ◌≤◌, length, drop}
use Rattle.paper.specs.Clauses.{every}
use Rattle.paper.specs.Session.{Session, hint_in, hint_named}
use Rattle.names.specs.Names.{Knows}
use Rattle.names.proofs.Known.all_hints_named.Given as goal

abbrev pub invariant-loop-word : goal.invariant-loop-word
invariant-loop-word l =
    record {
      within : l.word-index ≤ length l.hints;
      same : (s : Session) → Knows l.self.tally l.self.counter_ends.now s
          → every (λ word. hint_named s.sheet s.work (hint_in word)) (drop l.word-index l.hints)
          ≡ every (λ word. hint_named s.sheet s.work (hint_in word)) l.hints;
    }
