-- A literal that has no value is taken as false, and one that has a value is passed over.
use Rattle.std.proofs.Common.{arith}
use Rattle.values.specs.Lent.{bytes, known}
use Rattle.derive.proofs.Following.{assumed_more, known_none, false_kept}
use Rattle.derive.proofs.assume.Goals.{then-is_none, else-is_none}
use Rattle.derive.proofs.assume.Goals as goal

pub loop-literal-preserved : goal.loop-literal-preserved
loop-literal-preserved c =
    let o = c.loop-literal in
    let more = assumed_more (bytes o.values) c.args.clause.now o.literal-index (known c.value.result) in
    elim c.if-is_none.branch [
      | then-is_none w ↦ rw (w.values-is, w.trail-is, w.count-is) (grind (arith, more, known_none))
      | else-is_none w ↦ rw (w.values-is, w.trail-is, w.count-is) (grind (arith, more, false_kept))
    ]
