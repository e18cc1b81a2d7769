-- What a read brings is dropped behind what was dropped before.
use Rattle.std.proofs.Common.{◌≡◌, ◌++◌, arith, drop, length, length-append, take}
use Rattle.std.proofs.KnownBytes.{Consumes-trans}
use Rattle.std.proofs.Math.Seq.{length-take-le}
use Rattle.buffers.proofs.skip.Goals as goal

pub loop-left-preserved : goal.loop-left-preserved
loop-left-preserved g c =
    let before = c.loop-left.invariant in
    let read = c.read_from-got in
    let fits = (read.ensures.kept (omega arith)).1 in
    let came = take read.result (drop 0 read.new.buffer) in
    let size : length came ≡ read.result = length-take-le read.result (drop 0 read.new.buffer) (omega (arith, fits, read.auto.buffer)) in (
      before.0 ++ came,
      Consumes-trans _ _ _ before.0 came before.1 read.ensures.came,
      rw (length-append, size) (omega (arith, before.2, read.ensures.within)),
    )
