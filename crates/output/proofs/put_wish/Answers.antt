-- Without place nothing is written; else the start, the weight and the literals stand one behind the other.
use Rattle.lines.proofs.Lines.{written-append}
use Rattle.output.proofs.Bytes.{length_wish, wish_bytes, refused, put}
use Rattle.output.proofs.put_wish.Goals as goal

pub returns-then-not-has_place : goal.returns-then-not-has_place
returns-then-not-has_place c =
    refused c.args.out.now c.args.at _ _ (length_wish c.args.weight c.args.literals.now) c.has_place.ensures c.if-not-has_place.true

pub returns : goal.returns
returns c =
    let written = written-append (written-append c.put_start-place.ensures (rw c.from.ensures at c.put_four-behind.ensures)) c.put_literals.ensures in
    put c.args.out.now c.args.at _ _ (length_wish c.args.weight c.args.literals.now) c.has_place.ensures c.if-not-has_place.false (rw (wish_bytes c.args.weight c.args.literals.now) written)
