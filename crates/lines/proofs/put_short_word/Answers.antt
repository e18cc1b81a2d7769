-- A number of 32 bits has 10 digits at most.
use Rattle.std.proofs.Common.{arith}
use Rattle.lines.proofs.Lines.{number_short}
use Rattle.lines.proofs.put_short_word.Goals as goal

pub put_word-requires : goal.put_word-requires
put_word-requires c = omega (arith, number_short c.args.number c.args.end c.ranges.number.fits)

pub returns : goal.returns
returns c =
    let short = number_short c.args.number c.args.end c.ranges.number.fits in
    (c.put_word.ensures.0, omega arith)
