-- What is kept of the literals is the clause, and so its refusal is theirs.
use Rattle.std.proofs.Common.{rules, ◌≡◌, sym, ◌∙◌, refl}
use Rattle.paper.specs.Sizes.{narrow}
use Rattle.paper.specs.Reasons.{refusal_number}
use Rattle.wcnf.proofs.Laws.{admitted}
use Rattle.wcnf.proofs.clause_refusal.Goals as goal

pub returns-clause-answer : goal.returns-clause-answer
returns-clause-answer c size xs K zeros wide =
    let good = sym c.bad_weight.ensures ∙ c.if-bad_weight.false in
    let kept : c.in_ok-kept.kept.now ≡ xs = search (rules, K) in
    admitted c.args.header c.args.weight xs (refusal_number c.problem_refusal.result) good
    (c.problem_refusal.ensures.answer size narrow zeros wide refl ∙ rw kept)
