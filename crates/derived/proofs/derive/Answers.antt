-- Each way out is one law of Derives.
use Rattle.std.proofs.Common.{◌∙◌, ap, refl, sym}
use Rattle.paper.specs.Reasons.{reason_number, refusal_number}
use Rattle.paper.proofs.Reach.{reached_narrow}
use Rattle.derive.specs.Derivations.{place_of}
use Rattle.clauses.proofs.Lowest.{reason_some}
use Rattle.derived.proofs.Derives.{zeros_wide, zeros_kept, short_enough, some_place, no_place, known_in, clause_passed, derive_refused, derive_many, derive_unnamed, derive_unshown, derive_crowded, derive_full, derive_stored}
use Rattle.derived.proofs.derive.Goals.{then-hints-gt-MOST_HINTS-via-then-hints-gt-MOST_HINTS, then-hints-gt-MOST_HINTS-via-else-hints-gt-MOST_HINTS+then-not-all_hints_named}
use Rattle.derived.proofs.derive.Goals.{then-tally-ge-MOST_DERIVED-via-then-tally-ge-MOST_DERIVED, then-tally-ge-MOST_DERIVED-via-else-tally-ge-MOST_DERIVED+then-not-append}
use Rattle.derived.proofs.derive.Goals as goal

pub returns-in-Err-clause-stepped : goal.returns-in-Err-clause-stepped
returns-in-Err-clause-stepped c =
    let a = c.args in
    λ s r eq H z.
    let wide = c.width_of-width.ensures ∙ sym (reached_narrow s r) in
    let found = c.refusal.ensures.answer s (known_in s r eq H) wide (zeros_wide s r _ z) in
    let l = derive_refused s a.tally eq a.clause.now a.hints.now a.derived.now.literals.now a.derived.now.ends.now H.derived c.if-tally-eq0.false
    (reason_number c.in-Err.reason) (sym (ap refusal_number c.in-Err.is) ∙ found) (reason_some c.in-Err.reason) in
    (c.refuse-in-Err.ensures ∙ l.0, l.1)

pub returns-then-hints-gt-MOST_HINTS-clause-stepped : goal.returns-then-hints-gt-MOST_HINTS-clause-stepped
returns-then-hints-gt-MOST_HINTS-clause-stepped c =
    let a = c.args in
    λ s r eq H z.
    let wide = c.width_of-width.ensures ∙ sym (reached_narrow s r) in
    let found = c.refusal.ensures.answer s (known_in s r eq H) wide (zeros_wide s r _ z) in
    let none = sym (ap refusal_number c.in_default.is) in
    elim c.then-hints-gt-MOST_HINTS.branch [
      | then-hints-gt-MOST_HINTS-via-then-hints-gt-MOST_HINTS w ↦
          let l = derive_many s a.tally eq a.clause.now a.hints.now a.derived.now.literals.now a.derived.now.ends.now H.derived
          c.if-tally-eq0.false 0 (none ∙ found) refl w.if-hints-gt-MOST_HINTS.true in
          (c.refuse-then-hints-gt-MOST_HINTS.ensures ∙ l.0, l.1)
      | then-hints-gt-MOST_HINTS-via-else-hints-gt-MOST_HINTS+then-not-all_hints_named w ↦
          let all = sym (w.all_hints_named.ensures s (known_in s r eq H)) ∙ w.if-not-all_hints_named.true in
          let l = derive_unnamed s a.tally eq a.clause.now a.hints.now a.derived.now.literals.now a.derived.now.ends.now H.derived
          c.if-tally-eq0.false 0 (none ∙ found) refl w.if-hints-gt-MOST_HINTS.false all in
          (c.refuse-then-hints-gt-MOST_HINTS.ensures ∙ l.0, l.1)
    ]

pub returns-then-is_some-clause-stepped : goal.returns-then-is_some-clause-stepped
returns-then-is_some-clause-stepped c =
    let a = c.args in
    λ s r eq H z.
    let wide = c.width_of-width.ensures ∙ sym (reached_narrow s r) in
    let found = sym (ap refusal_number c.in_default.is)
    ∙ c.refusal.ensures.answer s (known_in s r eq H) wide (zeros_wide s r _ z) in
    let all = sym (c.all_hints_named.ensures s (known_in s r eq H)) ∙ c.if-not-all_hints_named.false in
    let kept = c.refusal.ensures.kept in
    let ok = clause_passed s a.tally eq a.clause.now a.hints.now 0 found refl in
    let fits = c.misfit_of.ensures.answer s r (rw (c.view.ensures.0, c.view.ensures.1) H) wide eq all ok.0 (zeros_kept kept.1 kept.2 (zeros_wide s r _ z))
    c.if-hints-gt-MOST_HINTS.false (short_enough wide ok.1) in
    let some = some_place c.misfit_of.result c.misfit_of.ensures.counted c.if-is_some.ensures in
    let l = derive_unshown s a.tally eq a.clause.now a.hints.now a.derived.now.literals.now a.derived.now.ends.now H.derived c.if-tally-eq0.false
    0 found refl c.if-hints-gt-MOST_HINTS.false all (place_of c.misfit_of.result) fits some in
    (c.refuse-then-is_some.ensures ∙ l.0, l.1)

pub returns-then-tally-ge-MOST_DERIVED-clause-stepped : goal.returns-then-tally-ge-MOST_DERIVED-clause-stepped
returns-then-tally-ge-MOST_DERIVED-clause-stepped c =
    let a = c.args in
    λ s r eq H z.
    let wide = c.width_of-width.ensures ∙ sym (reached_narrow s r) in
    let found = sym (ap refusal_number c.in_default.is)
    ∙ c.refusal.ensures.answer s (known_in s r eq H) wide (zeros_wide s r _ z) in
    let all = sym (c.all_hints_named.ensures s (known_in s r eq H)) ∙ c.if-not-all_hints_named.false in
    let kept = c.refusal.ensures.kept in
    let ok = clause_passed s a.tally eq a.clause.now a.hints.now 0 found refl in
    let fits = c.misfit_of.ensures.answer s r (rw (c.view.ensures.0, c.view.ensures.1) H) wide eq all ok.0 (zeros_kept kept.1 kept.2 (zeros_wide s r _ z))
    c.if-hints-gt-MOST_HINTS.false (short_enough wide ok.1) in
    let none = no_place c.misfit_of.result c.if-is_some.ensures in
    elim c.then-tally-ge-MOST_DERIVED.branch [
      | then-tally-ge-MOST_DERIVED-via-then-tally-ge-MOST_DERIVED w ↦
          let l = derive_crowded s a.tally eq a.clause.now a.hints.now a.derived.now.literals.now a.derived.now.ends.now H.derived
          c.if-tally-eq0.false 0 found refl c.if-hints-gt-MOST_HINTS.false all (place_of c.misfit_of.result) fits none
          w.if-tally-ge-MOST_DERIVED.true in
          rw w.derived-is (c.refuse-then-tally-ge-MOST_DERIVED.ensures ∙ l.0, l.1)
      | then-tally-ge-MOST_DERIVED-via-else-tally-ge-MOST_DERIVED+then-not-append w ↦
          let l = derive_full s a.tally eq a.clause.now a.hints.now a.derived.now.literals.now a.derived.now.ends.now H.derived
          c.if-tally-eq0.false 0 found refl c.if-hints-gt-MOST_HINTS.false all (place_of c.misfit_of.result) fits none
          w.append.result _ _ w.append.ensures.appended w.if-not-append.true in
          rw w.derived-is (c.refuse-then-tally-ge-MOST_DERIVED.ensures ∙ l.0, l.1)
    ]

pub returns-clause-stepped : goal.returns-clause-stepped
returns-clause-stepped c =
    let a = c.args in
    λ s r eq H z.
    let wide = c.width_of-width.ensures ∙ sym (reached_narrow s r) in
    let found = sym (ap refusal_number c.in_default.is)
    ∙ c.refusal.ensures.answer s (known_in s r eq H) wide (zeros_wide s r _ z) in
    let all = sym (c.all_hints_named.ensures s (known_in s r eq H)) ∙ c.if-not-all_hints_named.false in
    let kept = c.refusal.ensures.kept in
    let ok = clause_passed s a.tally eq a.clause.now a.hints.now 0 found refl in
    let fits = c.misfit_of.ensures.answer s r (rw (c.view.ensures.0, c.view.ensures.1) H) wide eq all ok.0 (zeros_kept kept.1 kept.2 (zeros_wide s r _ z))
    c.if-hints-gt-MOST_HINTS.false (short_enough wide ok.1) in
    let none = no_place c.misfit_of.result c.if-is_some.ensures in
    derive_stored s a.tally eq a.clause.now a.hints.now a.derived.now.literals.now a.derived.now.ends.now H.derived c.if-tally-eq0.false
    0 found refl c.if-hints-gt-MOST_HINTS.false all (place_of c.misfit_of.result) fits none c.append.result _ _
    c.append.ensures.appended c.if-not-append.false
