-- The truths of the inputs passed stand at the front.
use Rattle.std.proofs.Common.{◌≡◌, take, map}
use Rattle.weigh.specs.Marks.{input_truth}
use Rattle.weigh.proofs.Found.gather.Given as goal

abbrev pub invariant-loop-place : goal.invariant-loop-place
invariant-loop-place l = take l.place l.truths ≡ map (input_truth l.self.width l.self.broken.now l.self.counts.now) (take l.place l.inputs)
