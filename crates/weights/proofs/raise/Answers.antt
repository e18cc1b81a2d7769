-- One turn raises one root output more.
use Rattle.std.proofs.Common.{arith, ◌≡◌, refl, ◌+◌, min}
use Rattle.paper.specs.Sizes.{counter_start}
use Rattle.paper.specs.Session.{upper_outputs}
use Rattle.weights.proofs.Spreads.{gained_more, upper_past, upper_more}
use Rattle.weights.proofs.Rooms.{raised}
use Rattle.weights.proofs.raise.Goals as goal

pub loop-output-preserved : goal.loop-output-preserved
loop-output-preserved c =
    let a = c.args in
    let o = c.loop-output in
    let start = counter_start a.width a.counter in
    let now : min o.output a.inputs ≡ o.output = omega arith in
    let next : min (o.output + 1) a.inputs ≡ o.output + 1 = omega arith in
    record {
      so_far = λ wishes f spaced weighs short none.
          let before = rw now at (o.invariant.so_far wishes f spaced weighs short none) in
          let zero = none o.output (omega arith) (omega arith) in
          let past = upper_past a.weight start o.output (start + o.output) (omega arith) in
          rw (
            next,
            upper_more start o.output (omega arith),
            ← (gained_more a.weight f (upper_outputs start o.output) (start + o.output)),
            c.store.ensures,
            c.output_place-at.ensures,
          )
          (raised before a.weight (start + o.output) spaced a.counter o.output refl (omega arith) (omega arith));
    }

pub returns : goal.returns
returns c =
    let e : min c.loop-output.output c.args.inputs ≡ c.args.inputs = omega arith in
    λ wishes f spaced weighs short none. rw e at (c.loop-output.invariant.so_far wishes f spaced weighs short none)
