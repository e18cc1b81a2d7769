-- The word's ones and the truths still to come are all that are true.
use Rattle.std.proofs.Common.{◌≡◌, ◌+◌, ◌^◌, ◌<◌, ◌≤◌, length, drop}
use Rattle.std.specs.Int.Count.{ones}
use Rattle.truths.specs.Truths.{true_bytes}
use Rattle.truths.proofs.word_of.Given as goal

abbrev pub invariant-loop-truth : goal.invariant-loop-truth
invariant-loop-truth l =
    record {
      within : l.truth-index ≤ length l.truths;
      small : l.word < 2 ^ l.truth-index;
      together : ones l.word + true_bytes (drop l.truth-index l.truths) ≡ true_bytes l.truths;
    }
