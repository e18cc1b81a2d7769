-- Where the header allows it, the text reads as its clauses do.
use Rattle.std.proofs.Common.{rules}
use Rattle.wcnf.proofs.Whole.{with_header}
use Rattle.wcnf.proofs.read_records.Goals as goal

pub returns : goal.returns
returns c =
    let is = with_header c.args.text.now c.if-text-gt-MOST_TEXT.false c.in_ok-heading.heading (search rules)
    c.if-header-eq0.false c.if-header-gt-MOST_VARIABLES.false in
    rw is c.read_clauses.ensures
