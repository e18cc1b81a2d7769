-- One more literal is written; a literal read from the slice is its own 32 bits.
use Rattle.std.proofs.Common.{rules, ◌≡◌, slice_index_or, pos, w32, to_z, of_z, arith}
use Rattle.output.proofs.Bytes.{copied_place, copied_more}
use Rattle.output.proofs.put_literals.Goals as goal

pub put_four-place-requires : goal.put_four-place-requires
put_four-place-requires c = omega (arith, copied_place c.loop-literal.invariant)

pub loop-literal-preserved : goal.loop-literal-preserved
loop-literal-preserved c =
    let l = slice_index_or c.args.literals.now c.loop-literal.literal-index (pos 0) in
    let z : to_z w32 (of_z w32 l) ≡ l = search rules in
    copied_more c.loop-literal.invariant c.loop-literal-test.true (rw (c.from.ensures, c.cast_unsigned.ensures, z) at c.put_four-place.ensures)
