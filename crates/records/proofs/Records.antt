-- A record's own refusals, and what is left when none of them applies.
use mathlib.Core.Path.{◌≡◌}
use mathlib.Core.Bool.{true, false, not, ◌&&◌}
use Prim.Native.Nat.{ℕ}
use lib.Dec.{eqb, leb}
use Rattle.paper.specs.declared.Tally.{Tally}
use Rattle.paper.specs.declared.Answer.TheVariants.{Refused}
use Rattle.paper.specs.Clauses.{pick}
use Rattle.paper.specs.Session.{Session, tally_of}
use Rattle.paper.specs.Steps.{Step, opened, answer, next, outcome}
use Rattle.paper.specs.Records.{Record, formed, step, record_answer, record_next, record_outcome}

module _ (s : Session) (r : Record) where
  -- What a record's refusal hands back and leaves; `t` is the tally at entry.
  pub record Refuses (t : Tally) (number : ℕ) : Type 0 where
    pub answers : Refused number ≡ record_answer s r
    pub out : record { tally = t; answer = Refused number } ≡ record_outcome s r
    pub same : s ≡ record_next s r

  -- A record that comes to a step.
  pub record Comes (m : Step) : Type 0 where
    pub answers : answer s m ≡ record_answer s r
    pub out : outcome s m ≡ record_outcome s r
    pub after : next s m ≡ record_next s r

  module _ (t : Tally) (eq : t ≡ tally_of s) where
    module _ (known : (leb 1 r.kind && leb r.kind 6) ≡ true) where
      pub untimely : pick (eqb r.kind 1) (opened s) (not (opened s)) ≡ true → Refuses t 12
      untimely e = record { answers = rw (known, e); out = rw (eq, known, e); same = rw (known, e) }

  module _ (known : (leb 1 r.kind && leb r.kind 6) ≡ true) (timely : pick (eqb r.kind 1) (opened s) (not (opened s)) ≡ false) where
    pub well_formed : formed s.sheet.variables r.kind r.payload ≡ true → Comes (step r)
    well_formed e =
        record { answers = rw (known, timely, e); out = rw (known, timely, e); after = rw (known, timely, e) }
