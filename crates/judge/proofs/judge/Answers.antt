-- What no broken rule ends is judged by its cost.
use Rattle.std.proofs.Common.{◌≡◌, ◌∙◌, sym, ap, arith, ℕ}
use Rattle.paper.specs.declared.Tally.{Tally}
use Rattle.paper.specs.Truth.{arranged, cost}
use Rattle.paper.specs.Steps.{judged}
use Rattle.judge.proofs.Wishes.{cost_fits}
use Rattle.judge.proofs.Answers.{counted, costs}
use Rattle.judge.proofs.judge.Goals as goal

pub returns : goal.returns
returns c =
    λ s r eq R W.
    let t = arranged c.args.arrangement.now in
    let none = sym c.in_default.is ∙ c.broken_rule.ensures _ _ s.sheet.rules (counted s c.args.tally eq R) in
    let paid : c.cost_of-cost.result ≡ cost s.sheet t = c.cost_of-cost.ensures s (ap (λ (x : Tally). x.wishes) eq) W in
    c.compared.ensures (omega (arith, cost_fits s r t))
    ∙ ap (λ (k : ℕ). judged k c.args.tally.bound) paid
    ∙ costs s c.args.tally eq t c.if-tally-eq0.false none
