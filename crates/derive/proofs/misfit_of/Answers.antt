-- Over rooms of zeros a derivation is the paper's, and the rooms are given back.
use Rattle.std.proofs.Common.{◌∙◌, ap, arith}
use Rattle.paper.specs.declared.Width.{Width}
use Rattle.paper.proofs.Reach.{reached_narrow}
use Rattle.clauses.proofs.Lists.{append_parts}
use Rattle.values.specs.Lent.{bytes}
use Rattle.derive.proofs.Represented.{misfit_is}
use Rattle.derive.proofs.misfit_of.Goals as goal

-- No session's width allows so many literals.
pub returns-then-hints-gt-MOST_HINTS-clause-answer : goal.returns-then-hints-gt-MOST_HINTS-clause-answer
returns-then-hints-gt-MOST_HINTS-clause-answer c s r H width tally hints literals zeros few short =
    absurd (omega (arith, ap (λ (u : Width). u.literals) (width ∙ reached_narrow s r)))

pub returns-clause-kept : goal.returns-clause-kept
returns-clause-kept c =
    let values = c.args.values.now in
    let after = c.take_back.new.values in
    let parts = append_parts after.low.now after.high.now values.low.now values.high.now in
    grind (arith, parts)

pub returns-clause-answer : goal.returns-clause-answer
returns-clause-answer c s r H width tally hints literals zeros few short =
    let represented = misfit_is s r (bytes c.args.values.now) zeros c.args.clause.now literals c.args.hints.now hints in
    grind (arith, represented)
