-- Each turn reads one wish of those that are still to come.
use Rattle.std.proofs.Common.{rules, ◌≡◌, ◌≤◌, ◌∙◌, ap, arith, length, get_or}
use Rattle.paper.specs.Clauses.{clause_true}
use Rattle.paper.specs.Truth.{arranged}
use Rattle.judge.proofs.Wishes.{held, enough, wishes_turn}
use Rattle.judge.proofs.cost_of.Goals.{then-not-clause_holds, else-not-clause_holds}
use Rattle.judge.proofs.cost_of.Goals as goal

pub returns-in_default : goal.returns-in_default
returns-in_default c =
    λ s counts H.
    let past : length c.args.weights.now ≤ c.loop-number.number = search rules in
    absurd (omega (arith, enough counts H, c.loop-number-test.true))

pub loop-number-preserved : goal.loop-number-preserved
loop-number-preserved c =
    record {
      fits = elim c.if-not-clause_holds.branch [ then-not-clause_holds w ↦ omega arith | else-not-clause_holds w ↦ omega arith ];
      same =
          λ s counts H.
          let t = arranged c.args.arrangement.now in
          let o = c.loop-number in
          let b = c.clause_holds.result in
          let read = c.clause_holds.ensures ∙ ap (clause_true t) (c.clause.ensures _ _ _ (held counts H)) in
          let turn = wishes_turn counts H t o.number o.sum b (omega arith) read (o.invariant.same s counts H) in
          elim c.if-not-clause_holds.branch [
            | then-not-clause_holds w ↦
                let weight : c.in-Some.weight.now ≡ get_or c.args.weights.now o.number 0 = search rules in
                omega (arith, rw w.if-not-clause_holds.true at turn, weight)
            | else-not-clause_holds w ↦ omega (arith, rw w.if-not-clause_holds.false at turn)
          ];
    }
