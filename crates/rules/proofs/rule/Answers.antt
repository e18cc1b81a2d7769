-- Each way out is one law of Rules; `found` says that the number which the code found is the paper's.
use Rattle.std.proofs.Common.{refl, ◌∙◌, ap}
use Rattle.paper.specs.declared.Width.{Width}
use Rattle.clauses.proofs.Lowest.{reason_some}
use Rattle.rooms.proofs.Admissions.{number_is}
use Rattle.rules.proofs.Rules.{rule_refused, rule_crowded, rule_full, rule_stored}
use Rattle.rules.proofs.rule.Goals.{then-count-ge-MOST_RULES-via-then-count-ge-MOST_RULES, then-count-ge-MOST_RULES-via-else-count-ge-MOST_RULES+then-not-append}
use Rattle.rules.proofs.rule.Goals as goal

pub returns-in-Err-clause-stepped : goal.returns-in-Err-clause-stepped
returns-in-Err-clause-stepped c =
    λ s r eq H z.
    let a = c.args in
    let found = number_is s a.tally eq r _ z _ _ a.clause.now (ap (λ (x : Width). x.literals) c.width_of-most.ensures) c.in-Err.ensures.answer in
    let l = rule_refused s a.tally eq a.clause.now _ _ H c.if-variables-eq0.false _ found (reason_some c.in-Err.reason) in
    (c.refuse-in-Err.ensures ∙ l.0, l.1)

pub returns-then-count-ge-MOST_RULES-clause-stepped : goal.returns-then-count-ge-MOST_RULES-clause-stepped
returns-then-count-ge-MOST_RULES-clause-stepped c =
    λ s r eq H z.
    let a = c.args in
    let found = number_is s a.tally eq r _ z _ 0 a.clause.now (ap (λ (x : Width). x.literals) c.width_of-most.ensures) c.in_default.ensures.answer in
    elim c.then-count-ge-MOST_RULES.branch [
      | then-count-ge-MOST_RULES-via-then-count-ge-MOST_RULES w ↦
          let l = rule_crowded s a.tally eq a.clause.now _ _ H c.if-variables-eq0.false 0 found refl w.if-count-ge-MOST_RULES.true in
          rw w.rules-is (c.refuse-then-count-ge-MOST_RULES.ensures ∙ l.0, l.1)
      | then-count-ge-MOST_RULES-via-else-count-ge-MOST_RULES+then-not-append w ↦
          let l =
          rule_full s a.tally eq a.clause.now _ _ H c.if-variables-eq0.false 0 found refl w.append.result _ _ w.append.ensures.appended w.if-not-append.true in
          rw w.rules-is (c.refuse-then-count-ge-MOST_RULES.ensures ∙ l.0, l.1)
    ]

pub returns-clause-stepped : goal.returns-clause-stepped
returns-clause-stepped c =
    λ s r eq H z.
    let a = c.args in
    let found = number_is s a.tally eq r _ z _ 0 a.clause.now (ap (λ (x : Width). x.literals) c.width_of-most.ensures) c.in_default.ensures.answer in
    rule_stored s a.tally eq a.clause.now _ _ H c.if-variables-eq0.false 0 found refl c.append.result _ _ c.append.ensures.appended c.if-not-append.false
