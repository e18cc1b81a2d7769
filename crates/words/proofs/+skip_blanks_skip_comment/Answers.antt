-- Each way out is what one byte makes of the blanks and comments that are still to be passed.
use Rattle.std.proofs.Common.{arith, sym, ◌∙◌}
use Rattle.words.proofs.Gaps.{comment_starts, c_in_line, word_starts, blank_passed}
use Rattle.words.proofs.+skip_blanks_skip_comment.Goals as goal

pub skip_blanks-returns-then-starts_line : goal.skip_blanks-returns-then-starts_line
skip_blanks-returns-then-starts_line t c =
    let starts = sym c.starts_line.ensures ∙ c.if-starts_line.true in
    let passed = c.loop-place.invariant.same in
    c.skip_comment.ensures ∙ sym (passed ∙ comment_starts _ _ c.loop-place-test.true c.if-byte-eq99.true starts)

pub skip_blanks-returns-then-byte-eq99 : goal.skip_blanks-returns-then-byte-eq99
skip_blanks-returns-then-byte-eq99 t c =
    let in_line = sym c.starts_line.ensures ∙ c.if-starts_line.false in
    sym (c.loop-place.invariant.same ∙ c_in_line _ _ c.loop-place-test.true c.if-byte-eq99.true in_line)

pub skip_blanks-returns-then-not-is_blank : goal.skip_blanks-returns-then-not-is_blank
skip_blanks-returns-then-not-is_blank t c =
    let no_blank = sym c.is_blank.ensures ∙ c.if-not-is_blank.true in
    sym (c.loop-place.invariant.same ∙ word_starts _ _ c.loop-place-test.true c.if-byte-eq99.false no_blank)

pub skip_blanks-loop-place-preserved : goal.skip_blanks-loop-place-preserved
skip_blanks-loop-place-preserved t c =
    let blank = sym c.is_blank.ensures ∙ c.if-not-is_blank.false in
    record {
      onward = omega arith;
      same = c.loop-place.invariant.same ∙ blank_passed _ _ c.loop-place-test.true c.if-byte-eq99.false blank;
    }
