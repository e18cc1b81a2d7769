-- Only the last line of the table is left, and what `distinct` found decides it.
use Rattle.std.proofs.Common.{◌≡◌, arith}
use Rattle.std.proofs.lemmas.Grind.{common_steps}
use Rattle.paper.specs.Clauses.{every}
use Rattle.marks.proofs.Marks.{twice_told}
use Rattle.marks.proofs.clause_refusal.Goals as goal

pub returns-then-not-distinct-clause-answer : goal.returns-then-not-distinct-clause-answer
returns-then-not-distinct-clause-answer c size u named zeros within wide e =
    let told : c.args.all_named ≡ every named c.args.clause.now = e (omega (arith, c.if-most-clause.false)) in
    let twice = twice_told size _ named c.args.clause.now c.distinct.result c.distinct.ensures.answer zeros within (cc) in
    grind (arith, common_steps, twice)

pub returns-clause-answer : goal.returns-clause-answer
returns-clause-answer c size u named zeros within wide e =
    let told : c.args.all_named ≡ every named c.args.clause.now = e (omega (arith, c.if-most-clause.false)) in
    let twice = twice_told size _ named c.args.clause.now c.distinct.result c.distinct.ensures.answer zeros within (cc) in
    grind (arith, common_steps, twice)
