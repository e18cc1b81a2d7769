-- Before each turn the root outputs from 2 to the last one passed have the weight.
use Rattle.std.proofs.Common.{◌≡◌, List, ℕ, ◌+◌, ◌<◌, ◌≤◌, min}
use Rattle.paper.specs.Sizes.{counter_start}
use Rattle.paper.specs.Session.{upper_outputs}
use Rattle.weights.specs.Weights.{Spaced, Weighs, gained}
use Rattle.weights.proofs.raise.Given as goal

abbrev pub invariant-loop-output : goal.invariant-loop-output
invariant-loop-output l =
    record {
      so_far :
          (wishes : List ℕ) (f : ℕ → ℕ) → Spaced l.width → Weighs l.width wishes l.initial.outputs f
          → l.inputs ≤ l.width.literals
          → ((t : ℕ) → 0 < t → t < l.inputs → f (counter_start l.width l.counter + t) ≡ 0)
          → Weighs l.width wishes l.outputs
          (gained f l.weight (upper_outputs (counter_start l.width l.counter) (min l.output l.inputs)));
    }
