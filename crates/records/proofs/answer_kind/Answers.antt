-- Each way out is one law of Records and one of Answered.
use Rattle.std.proofs.Common.{rules, refl}
use Rattle.rooms.proofs.Outcomes.{begun}
use Rattle.paper.specs.Kinds.{kind_number}
use Rattle.records.proofs.Answered.{open_answered, rule_answered, wish_answered, derive_answered, core_answered, judge_answered}
use Rattle.records.proofs.answer_kind.Goals as goal

pub returns-then-tally-eq0-clause-answered : goal.returns-then-tally-eq0-clause-answered
returns-then-tally-eq0-clause-answered c =
    let a = c.args in
    λ s k. c.answer_closed.ensures s _ a.values.now.low.now a.values.now.high.now k c.if-tally-eq0.true

pub returns-in-Open-clause-answered : goal.returns-in-Open-clause-answered
returns-in-Open-clause-answered c =
    let a = c.args in
    λ s k. open_answered _ _ a.values.now.low.now a.values.now.high.now s k a.payload.now _
    a.values.now.low.now a.values.now.high.now (refl, refl) (kind_number a.kind) (search rules)
    (c.open_record.ensures s k.reached k.counts)

pub returns-in-Rule-clause-answered : goal.returns-in-Rule-clause-answered
returns-in-Rule-clause-answered c =
    let a = c.args in
    let after = c.rule_record.ensures in
    λ s k. rule_answered _ _ a.values.now.low.now a.values.now.high.now s k a.payload.now _
    _ _ (after.kept.1, after.kept.2) (kind_number a.kind) (search rules)
    _ _ (after.stepped s k.reached k.counts (begun s a.tally k.counts c.if-tally-eq0.false) k.held.rules k.zeros)

pub returns-in-Wish-clause-answered : goal.returns-in-Wish-clause-answered
returns-in-Wish-clause-answered c =
    let a = c.args in
    let after = c.wish_record.ensures in
    λ s k. wish_answered _ _ a.values.now.low.now a.values.now.high.now s k a.payload.now _
    _ _ (after.kept.1, after.kept.2) (kind_number a.kind) (search rules)
    _ _ _ _ (after.stepped s _ k.reached k.counts (begun s a.tally k.counts c.if-tally-eq0.false) k.held.wishes k.held.weights k.zeros)

pub returns-in-Derive-clause-answered : goal.returns-in-Derive-clause-answered
returns-in-Derive-clause-answered c =
    let a = c.args in
    let after = c.derive_record.ensures in
    λ s k. derive_answered _ _ a.values.now.low.now a.values.now.high.now s k a.payload.now _
    _ _ (after.kept.1, after.kept.2) (kind_number a.kind) (search rules)
    _ _ (after.stepped s k.reached k.counts (begun s a.tally k.counts c.if-tally-eq0.false)
    (record {
      rules = rw (c.view.ensures.0, c.view.ensures.1) k.held.rules;
      wishes = rw (c.view-in-Derive.ensures.0, c.view-in-Derive.ensures.1) k.held.wishes.clauses;
      counters = rw (c.view-in-Derive-2.ensures.0, c.view-in-Derive-2.ensures.1) k.held.counters;
      derived = k.held.derived;
    }) k.zeros)

pub returns-in-Core-clause-answered : goal.returns-in-Core-clause-answered
returns-in-Core-clause-answered c =
    let a = c.args in
    let after = c.core_record.ensures in
    λ s k. core_answered _ _ a.values.now.low.now a.values.now.high.now s k a.payload.now _
    a.values.now.low.now a.values.now.high.now (refl, refl) (kind_number a.kind) (search rules)
    _ _ _ _ (after.stepped s k.reached k.counts (begun s a.tally k.counts c.if-tally-eq0.false)
    (rw (c.view-in-Core.ensures.0, c.view-in-Core.ensures.1) k.held.derived) k.held.counters k.held.weights)

pub returns-in-Judge-clause-answered : goal.returns-in-Judge-clause-answered
returns-in-Judge-clause-answered c =
    let a = c.args in
    λ s k. judge_answered _ _ a.values.now.low.now a.values.now.high.now s k a.payload.now _
    a.values.now.low.now a.values.now.high.now (refl, refl) (kind_number a.kind) (search rules)
    _ refl (c.judge_record.ensures s k.reached k.counts (begun s a.tally k.counts c.if-tally-eq0.false)
    (rw (c.view-in-Judge.ensures.0, c.view-in-Judge.ensures.1) k.held.rules)
    (rw (c.view-in-Judge-2.ensures.0, c.view-in-Judge-2.ensures.1) k.held.wishes))
