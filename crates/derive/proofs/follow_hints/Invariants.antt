-- The hints that are left lead, from the values so far, to where all of them do.
use Rattle.std.proofs.Common.{◌≡◌, true, ◌+◌, length, drop}
use Rattle.paper.specs.Clauses.{every}
use Rattle.paper.specs.Session.{Session, tally_of, hint_in, hint_named}
use Rattle.paper.specs.Runs.{Reached}
use Rattle.values.specs.Lent.{bytes, SameValues}
use Rattle.marks.specs.Marks.{unmarked}
use Rattle.hints.specs.Hinted.{HeldClauses}
use Rattle.hints.specs.Lent.{held_in}
use Rattle.derive.specs.Derivations.{hinted, misfit_in}
use Rattle.derive.proofs.follow_hints.Given as goal

abbrev pub invariant-loop-i : goal.invariant-loop-i
invariant-loop-i l =
    record {
      same : SameValues l.initial.values l.values;
      trail_kept : length l.trail ≡ length l.initial.trail;
      undone : unmarked (bytes l.values) l.trail (l.count + l.i) ≡ unmarked (bytes l.initial.values) l.initial.trail l.count;
      answer : (s : Session) → Reached s → HeldClauses (held_in l.clauses) s
          → l.clauses.width ≡ s.sheet.width → l.clauses.tally ≡ tally_of s
          → every (λ word. hint_named s.sheet s.work (hint_in word)) l.hints ≡ true
          → misfit_in (bytes l.values) (l.i + 1) (hinted s (drop l.i l.hints))
          ≡ misfit_in (bytes l.initial.values) 1 (hinted s l.hints);
    }
