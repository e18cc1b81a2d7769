-- What waits is what was left and then what was read.
use Rattle.std.proofs.Common.{◌≡◌, ◌-◌, arith, drop, length, length-drop, take}
use Rattle.std.proofs.Math.Seq.{length-take-le}
use Rattle.turns.proofs.Waiting.{refilled}
use Rattle.turns.proofs.refill.Goals as goal

pub returns-clause-came : goal.returns-clause-came
returns-clause-came g c = λ w.
    let s = c.args.state in
    let f = c.refill-filled in
    let kept = f.ensures.kept w.up w.fits in
    let left = s.end - s.start in
    let read = take f.result.got (drop left f.new.bytes) in
    let place : f.result.end - f.result.got ≡ left = omega (arith, kept.0) in
    let size : length read ≡ f.result.got =
    length-take-le f.result.got (drop left f.new.bytes) (omega (arith, kept.0, kept.1, f.auto.bytes, length-drop left f.new.bytes)) in (
      read,
      rw place at f.ensures.came,
      omega (arith, size, f.ensures.within),
      refilled c.args.input.now f.new.bytes s.start s.end f.result.end f.result.got kept.0 (omega (arith, kept.1, f.auto.bytes)) kept.2,
    )
