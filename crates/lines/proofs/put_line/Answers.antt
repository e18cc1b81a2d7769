-- A line is five words, each written where the one before it ends.
use Rattle.std.proofs.Common.{arith}
use Rattle.lines.proofs.Lines.{place_short, written-append, line_words}
use Rattle.lines.proofs.put_line.Goals as goal

pub put_word-second-requires : goal.put_word-second-requires
put_word-second-requires c = omega (arith, place_short c.args.place 32 c.ranges.place.fits)

pub returns : goal.returns
returns c =
    let place = c.put_word-second.ensures.0 in
    let kind = c.put_short_word-third.ensures.0 in
    let number = c.put_short_word-fourth.ensures.0 in
    let first = c.put_short_word-fifth.ensures.0 in
    let second = c.put_short_word.ensures.0 in
    let written = written-append (written-append (written-append (written-append place kind) number) first) second in
    record { fits = λ h. rw line_words written; refused = λ h. absurd (omega arith); short = omega arith }
