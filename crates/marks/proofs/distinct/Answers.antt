-- What was marked is unmarked, in each of the two rooms.
use Rattle.std.proofs.Common.{◌≡◌, rules}
use Rattle.clauses.proofs.Lists.{append_parts}
use Rattle.values.specs.Lent.{bytes, SameValues}
use Rattle.marks.proofs.distinct.Goals as goal

pub returns-clause-kept : goal.returns-clause-kept
returns-clause-kept c =
    let after = c.take_back.new.values in
    let before = c.args.values.now in
    let same : SameValues before after = search rules in
    let back : bytes after ≡ bytes before = cc (c.take_back.ensures.within c.mark-count.ensures.marked.within) in
    let parts = append_parts after.low.now after.high.now before.low.now before.high.now same.2 back in
    (same, parts.0, parts.1)
