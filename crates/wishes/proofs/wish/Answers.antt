-- Each way out is one law of Wishes; `found` says that the number which the code found is the paper's.
use Rattle.std.proofs.Common.{refl, ◌∙◌, ap}
use Rattle.paper.specs.declared.Width.{Width}
use Rattle.clauses.proofs.Lowest.{reason_some}
use Rattle.rooms.proofs.Admissions.{number_is}
use Rattle.wishes.proofs.Wishes.{wish_refused, wish_crowded, wish_full, wish_stored}
use Rattle.wishes.proofs.wish.Goals.{then-count-ge-MOST_WISHES-via-then-count-ge-MOST_WISHES, then-count-ge-MOST_WISHES-via-else-count-ge-MOST_WISHES+then-not-append}
use Rattle.wishes.proofs.wish.Goals as goal

pub returns-in-Err-clause-stepped : goal.returns-in-Err-clause-stepped
returns-in-Err-clause-stepped c =
    λ s outputs r eq H G z.
    let a = c.args in
    let found = number_is s a.tally eq r _ z _ _ a.clause.now (ap (λ (x : Width). x.literals) c.width_of-most.ensures) c.in-Err.ensures.answer in
    let l =
    wish_refused s a.tally eq a.weight a.clause.now _ _ _ _ outputs H G c.if-variables-eq0.false c.if-weight-lt1.false
    c.if-weight-gt-MOST_WEIGHT.false _ found (reason_some c.in-Err.reason) in
    (c.refuse-in-Err.ensures ∙ l.0, l.1, l.2)

pub returns-then-count-ge-MOST_WISHES-clause-stepped : goal.returns-then-count-ge-MOST_WISHES-clause-stepped
returns-then-count-ge-MOST_WISHES-clause-stepped c =
    λ s outputs r eq H G z.
    let a = c.args in
    let found = number_is s a.tally eq r _ z _ 0 a.clause.now (ap (λ (x : Width). x.literals) c.width_of-most.ensures) c.in_default.ensures.answer in
    elim c.then-count-ge-MOST_WISHES.branch [
      | then-count-ge-MOST_WISHES-via-then-count-ge-MOST_WISHES w ↦
          let l =
          wish_crowded s a.tally eq a.weight a.clause.now _ _ _ _ outputs H G c.if-variables-eq0.false c.if-weight-lt1.false
          c.if-weight-gt-MOST_WEIGHT.false 0 found refl w.if-count-ge-MOST_WISHES.true in
          rw w.wishes-is (c.refuse-then-count-ge-MOST_WISHES.ensures ∙ l.0, l.1, l.2)
      | then-count-ge-MOST_WISHES-via-else-count-ge-MOST_WISHES+then-not-append w ↦
          let l =
          wish_full s a.tally eq a.weight a.clause.now _ _ _ _ outputs H G c.if-variables-eq0.false c.if-weight-lt1.false
          c.if-weight-gt-MOST_WEIGHT.false 0 found refl w.append.result _ _ w.append.ensures.appended w.if-not-append.true in
          rw w.wishes-is (c.refuse-then-count-ge-MOST_WISHES.ensures ∙ l.0, l.1, l.2)
    ]

pub returns-clause-stepped : goal.returns-clause-stepped
returns-clause-stepped c =
    λ s outputs r eq H G z.
    let a = c.args in
    let found = number_is s a.tally eq r _ z _ 0 a.clause.now (ap (λ (x : Width). x.literals) c.width_of-most.ensures) c.in_default.ensures.answer in
    wish_stored s a.tally eq a.weight a.clause.now _ _ _ _ outputs H G c.if-variables-eq0.false c.if-weight-lt1.false
    c.if-weight-gt-MOST_WEIGHT.false 0 found refl c.append.result _ _ c.append.ensures.appended r c.if-count-ge-MOST_WISHES.false _ _
    c.store.ensures (λ f. c.start.ensures s.sheet.width outputs f) c.if-not-append.false
