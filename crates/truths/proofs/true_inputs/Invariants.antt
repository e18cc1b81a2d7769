-- The count and the truths still to come are all that are true.
use Rattle.std.proofs.Common.{◌≡◌, ◌+◌}
use Rattle.truths.specs.Truths.{true_bytes}
use Rattle.truths.proofs.true_inputs.Given as goal

abbrev pub invariant-loop-block : goal.invariant-loop-block
invariant-loop-block l =
    record { size : l.block-iterator.size ≡ 64; together : l.count + true_bytes l.block-iterator.rest.now ≡ true_bytes l.truths }
