-- What a read brings stands behind what had come before.
use Rattle.std.proofs.Common.{arith}
use Rattle.std.proofs.KnownBytes.{Consumes-trans}
use Rattle.std.proofs.Math.Seq.{take-add}
use Rattle.buffers.proofs.read_full.Goals as goal

pub loop-at-preserved : goal.loop-at-preserved
loop-at-preserved g c =
    let read = c.read_from-got in
    let kept = read.ensures.kept c.loop-at.invariant.within in
    record {
      within = omega (arith, kept.1, read.auto.buffer);
      came = rw (take-add, kept.0) (Consumes-trans _ _ _ _ _ c.loop-at.invariant.came read.ensures.came);
    }
