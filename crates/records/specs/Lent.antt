-- The rooms of a session, lent as those of its families, its weights and its values.
use Rattle.std.specs.Prelude.{List, ℕ}
use Rattle.clauses.specs.declared.FamilyRoomsMut.{FamilyRoomsMut}
use Rattle.weights.specs.declared.WeightRoomsMut.{WeightRoomsMut}
use Rattle.rooms.specs.Held.{Rooms}

abbrev pub lent : FamilyRoomsMut → FamilyRoomsMut → List ℕ → FamilyRoomsMut → FamilyRoomsMut → WeightRoomsMut → Rooms
lent rules wishes wish_weights derived counters weights =
    record {
      rules = rules.literals.now;
      rule_ends = rules.ends.now;
      wishes = wishes.literals.now;
      wish_ends = wishes.ends.now;
      wish_weights = wish_weights;
      derived = derived.literals.now;
      derived_ends = derived.ends.now;
      inputs = counters.literals.now;
      counter_ends = counters.ends.now;
      left = weights.wishes.now;
      outputs = weights.outputs.now;
    }
