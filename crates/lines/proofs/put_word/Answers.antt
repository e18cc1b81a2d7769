-- A word is a number and one byte.
use Rattle.std.proofs.Common.{arith}
use Rattle.lines.specs.Lines.{word}
use Rattle.lines.proofs.Lines.{word-length, place_short, written_byte, written-append}
use Rattle.lines.proofs.put_word.Goals as goal

pub put_number-last-requires : goal.put_number-last-requires
put_number-last-requires c = omega (arith, word-length c.args.number c.args.end)

pub bounds-out-last : goal.bounds-out-last
bounds-out-last c = omega (arith, word-length c.args.number c.args.end)

pub overflow_add-result : goal.overflow_add-result
overflow_add-result c = omega (arith, word-length c.args.number c.args.end)

pub returns : goal.returns
unfolding word
returns c =
    let written = written-append c.put_number-last.ensures (written_byte _ _ c.args.end) in
    let short = place_short c.args.number c.args.end c.ranges.number.fits in
    (written, omega (arith, written.ends, short))
