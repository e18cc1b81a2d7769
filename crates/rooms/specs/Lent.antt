-- The rooms of a session as they are lent.
use Rattle.std.specs.Prelude.{◌≡◌, List, ◌++◌, ℕ}
use Rattle.paper.specs.declared.Tally.{Tally}
use Rattle.paper.specs.Session.{Session}
use Rattle.rooms.specs.Held.{Rooms}
use Rattle.rooms.specs.Kept.{Kept}
use Rattle.rooms.specs.declared.RoomsMut.{RoomsMut}

-- The rooms that hold the session.
abbrev pub rooms_in : RoomsMut → Rooms
rooms_in rooms =
    record {
      rules = rooms.rules.now;
      rule_ends = rooms.rule_ends.now;
      wishes = rooms.wishes.now;
      wish_ends = rooms.wish_ends.now;
      wish_weights = rooms.wish_weights.now;
      derived = rooms.derived.now;
      derived_ends = rooms.derived_ends.now;
      inputs = rooms.inputs.now;
      counter_ends = rooms.counter_ends.now;
      left = rooms.left.now;
      outputs = rooms.outputs.now;
    }

-- The value rooms, end to end.
abbrev pub values_in : RoomsMut → List ℕ
values_in rooms = rooms.low.now ++ rooms.high.now

-- What a caller keeps between two calls.
abbrev pub Keeps : Tally → RoomsMut → Session → Type 0
Keeps t rooms s = Kept t (rooms_in rooms) (values_in rooms) s

-- All fields are the references that they were.
abbrev pub SameRooms : RoomsMut → RoomsMut → Type 0
SameRooms a b =
    (b.rules.ghost_name ≡ a.rules.ghost_name)
    × (b.rule_ends.ghost_name ≡ a.rule_ends.ghost_name)
    × (b.wishes.ghost_name ≡ a.wishes.ghost_name)
    × (b.wish_ends.ghost_name ≡ a.wish_ends.ghost_name)
    × (b.wish_weights.ghost_name ≡ a.wish_weights.ghost_name)
    × (b.derived.ghost_name ≡ a.derived.ghost_name)
    × (b.derived_ends.ghost_name ≡ a.derived_ends.ghost_name)
    × (b.inputs.ghost_name ≡ a.inputs.ghost_name)
    × (b.counter_ends.ghost_name ≡ a.counter_ends.ghost_name)
    × (b.left.ghost_name ≡ a.left.ghost_name)
    × (b.outputs.ghost_name ≡ a.outputs.ghost_name)
    × (b.low.ghost_name ≡ a.low.ghost_name)
    × (b.high.ghost_name ≡ a.high.ghost_name)

-- The work rooms are as they were.
abbrev pub KeptWork : RoomsMut → RoomsMut → Type 0
KeptWork a b = (b.low.now ≡ a.low.now) × (b.high.now ≡ a.high.now)
