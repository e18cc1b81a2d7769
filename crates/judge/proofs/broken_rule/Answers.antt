-- Each turn reads one rule of those that are still to come; the first that is broken is the answer.
use Rattle.std.proofs.Common.{◌∙◌, sym, ap, arith}
use Rattle.paper.specs.Clauses.{clause_true}
use Rattle.paper.specs.Truth.{arranged}
use Rattle.judge.proofs.Arrangements.{none_broken, rule_broken, rule_met}
use Rattle.judge.proofs.broken_rule.Goals as goal

pub returns-then-not-clause_holds : goal.returns-then-not-clause_holds
returns-then-not-clause_holds c = λ size most family H.
    let t = arranged c.args.arrangement.now in
    let read = c.clause_holds.ensures ∙ ap (clause_true t) (c.clause.ensures size most family H) in
    rule_broken t family c.loop-number.number (c.loop-number.invariant.met size most family H) (omega (arith, H.count_is))
    (sym read ∙ c.if-not-clause_holds.true)

pub loop-number-preserved : goal.loop-number-preserved
loop-number-preserved c =
    record {
      met = λ size most family H.
          let t = arranged c.args.arrangement.now in
          let read = c.clause_holds.ensures ∙ ap (clause_true t) (c.clause.ensures size most family H) in
          rule_met t family c.loop-number.number (c.loop-number.invariant.met size most family H) (omega (arith, H.count_is))
          (sym read ∙ c.if-not-clause_holds.false);
    }

pub returns : goal.returns
returns c = λ size most family H.
    none_broken (arranged c.args.arrangement.now) family c.loop-number.number (c.loop-number.invariant.met size most family H)
    (omega (arith, H.count_is))
