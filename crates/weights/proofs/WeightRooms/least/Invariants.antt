-- Before each turn the literals passed are members, and their least weight is known.
use Rattle.std.proofs.Common.{◌≡◌, true, ℕ, take}
use Rattle.paper.specs.Clauses.{every}
use Rattle.weights.specs.Weights.{Spaced, Weighs, Elsewhere, is_member, least_member}
use Rattle.weights.proofs.WeightRooms.least.Given as goal

abbrev pub invariant-loop-literal : goal.invariant-loop-literal
invariant-loop-literal l =
    record {
      so_far :
          (f : ℕ → ℕ) → Spaced l.width → Weighs l.width l.self.wishes.now l.self.outputs.now f → Elsewhere l.width f
          → (every (is_member f) (take l.literal-index l.clause) ≡ true) × (l.least ≡ least_member f (take l.literal-index l.clause));
    }
