-- Before each turn as many members as were passed are lowered.
use Rattle.std.proofs.Common.{map, ℕ, take}
use Rattle.paper.specs.Clauses.{variable}
use Rattle.weights.specs.Weights.{Spaced, Weighs, lost}
use Rattle.weights.specs.Lent.{SameWeights}
use Rattle.weights.proofs.WeightRoomsMut.lower.Given as goal

abbrev pub invariant-loop-member : goal.invariant-loop-member
invariant-loop-member l =
    record {
      same : SameWeights l.fn.self l.self;
      so_far :
          (f : ℕ → ℕ) → Spaced l.width → Weighs l.width l.fn.self.wishes.now l.fn.self.outputs.now f
          → Weighs l.width l.self.wishes.now l.self.outputs.now (lost f l.weight (map variable (take l.member-index l.clause)));
    }
