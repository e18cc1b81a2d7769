-- One literal more is read, and the invariant holds one place on.
use Rattle.std.proofs.Common.{◌≡◌, ◌∙◌, pos, w32, to_z, of_z, get_or, rules}
use Rattle.values.specs.Lent.{bytes_in}
use Rattle.readings.proofs.Readings.{read_next}
use Rattle.readings.proofs.read_on.Goals as goal

pub loop-literal-preserved : goal.loop-literal-preserved
loop-literal-preserved c =
    let o = c.loop-literal in
    let part = c.args.part.now in
    let l = get_or part o.literal-index (pos 0) in
    let z : to_z w32 (of_z w32 l) ≡ l = search rules in
    rw (c.read_one-known.ensures, z) (read_next (bytes_in c.args.values) part o.literal-index o.known c.loop-literal-test.true)
    ∙ o.invariant
