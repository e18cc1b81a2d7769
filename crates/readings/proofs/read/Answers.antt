-- A literal told to be false is passed over, and the first that is not is kept.
use Rattle.std.proofs.Common.{◌≡◌, pos, w32, to_z, of_z, get_or, arith, rules}
use Rattle.values.specs.Lent.{bytes_in}
use Rattle.readings.proofs.Readings.{false_next, first_other, only_other}
use Rattle.readings.proofs.read.Goals.{then-not-told_false+else-is_some, else-not-told_false}
use Rattle.readings.proofs.read.Goals as goal

pub loop-literal-preserved : goal.loop-literal-preserved
loop-literal-preserved c =
    let o = c.loop-literal in
    elim c.if-not-told_false.branch [
      | then-not-told_false+else-is_some w ↦ rw w.other-is (grind (arith, first_other))
      | else-not-told_false w ↦
          let part = c.args.part.now in
          let l = get_or part o.literal-index (pos 0) in
          let z : to_z w32 (of_z w32 l) ≡ l = search rules in
          let told = rw z at (c.told_false.ensures w.if-not-told_false.false c.args.values.high.now) in
          rw (w.other-is, ← false_next (bytes_in c.args.values) part o.literal-index c.loop-literal-test.true told) o.invariant
    ]

pub returns-in-Some : goal.returns-in-Some
returns-in-Some c = grind (arith, only_other)
