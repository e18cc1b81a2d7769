-- Without place nothing is written; else the start and the literals stand one behind the other.
use Rattle.lines.proofs.Lines.{written-append}
use Rattle.output.proofs.Bytes.{length_rule, rule_bytes, refused, put}
use Rattle.output.proofs.put_rule.Goals as goal

pub returns-then-not-has_place : goal.returns-then-not-has_place
returns-then-not-has_place c =
    refused c.args.out.now c.args.at _ _ (length_rule c.args.literals.now) c.has_place.ensures c.if-not-has_place.true

pub returns : goal.returns
returns c =
    let written = written-append c.put_start-place.ensures c.put_literals.ensures in
    put c.args.out.now c.args.at _ _ (length_rule c.args.literals.now) c.has_place.ensures c.if-not-has_place.false (rw (rule_bytes c.args.literals.now) written)
