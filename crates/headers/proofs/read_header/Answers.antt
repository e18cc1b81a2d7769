-- Each way out is one law of Headers.
use Rattle.std.proofs.Common.{arith, sym, ◌∙◌}
use Rattle.std.proofs.lemmas.Grind.{common_steps}
use Rattle.headers.proofs.Headers.{no_start, line_fits, no_line, no_blank, not_three, header_read}
use Rattle.headers.proofs.read_header.Goals.{then-end-start-via-then-end-start, then-end-start-via-else-end-start+then-not-is_blank}
use Rattle.headers.proofs.read_header.Goals as goal

pub returns-then-not-has_at : goal.returns-then-not-has_at
returns-then-not-has_at c =
    no_start c.args.text.now _ c.skip_blanks-start.ensures (sym c.has_at.ensures ∙ c.if-not-has_at.true)

pub returns-then-end-start : goal.returns-then-end-start
returns-then-end-start c =
    let text = c.args.text.now in
    let starts = c.skip_blanks-start.ensures in
    let has = sym c.has_at.ensures ∙ c.if-not-has_at.false in
    let ends = c.line_end-end.ensures in
    elim c.then-end-start.branch [
      | then-end-start-via-then-end-start w ↦ no_line text _ starts has _ ends w.if-end-start.true
      | then-end-start-via-else-end-start+then-not-is_blank w ↦
          no_blank text _ starts has _ ends w.if-end-start.false (sym w.is_blank.ensures ∙ w.if-not-is_blank.true)
    ]

pub slice_bounds-read_numbers-end : goal.slice_bounds-read_numbers-end
slice_bounds-read_numbers-end c =
    let has = sym c.has_at.ensures ∙ c.if-not-has_at.false in
    let fits = line_fits c.args.text.now _ c.skip_blanks-start.ensures has _ c.line_end-end.ensures in
    grind (arith, common_steps)

pub returns-in_err-numbers : goal.returns-in_err-numbers
returns-in_err-numbers c =
    let has = sym c.has_at.ensures ∙ c.if-not-has_at.false in
    rw c.from_residual.ensures
    (not_three c.args.text.now _ c.skip_blanks-start.ensures has _ c.line_end-end.ensures c.if-end-start.false c.in_err-numbers.ensures)

pub overflow_add-result : goal.overflow_add-result
overflow_add-result c =
    let has = sym c.has_at.ensures ∙ c.if-not-has_at.false in
    omega (arith, line_fits c.args.text.now _ c.skip_blanks-start.ensures has _ c.line_end-end.ensures)

pub returns : goal.returns
returns c =
    let has = sym c.has_at.ensures ∙ c.if-not-has_at.false in
    let blank = sym c.is_blank.ensures ∙ c.if-not-is_blank.false in
    header_read c.args.text.now _ c.skip_blanks-start.ensures has _ c.line_end-end.ensures c.if-end-start.false
    _ c.in_ok-numbers.ensures blank
