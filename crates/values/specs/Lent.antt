-- The two rooms of values, as they are lent, and a literal's value as an option.
use Rattle.std.specs.Prelude.{◌≡◌, Bool, List, ◌++◌, ℕ, Option, Some, None, length}
use Rattle.paper.specs.Derivation.{Value, unassigned, is}
use Rattle.values.specs.declared.ValueRooms.{ValueRooms}
use Rattle.values.specs.declared.ValueRoomsMut.{ValueRoomsMut}

-- Their bytes, end to end: of rooms to write, and of rooms to read.
abbrev pub bytes : ValueRoomsMut → List ℕ
bytes v = v.low.now ++ v.high.now

abbrev pub bytes_in : ValueRooms → List ℕ
bytes_in v = v.low.now ++ v.high.now

-- Both fields are the references that they were, to rooms of the lengths that they had.
abbrev pub SameValues : ValueRoomsMut → ValueRoomsMut → Type 0
SameValues a b =
    (b.low.ghost_name ≡ a.low.ghost_name) × (b.high.ghost_name ≡ a.high.ghost_name) × (length b.low.now ≡ length a.low.now)
    × (length b.high.now ≡ length a.high.now)

-- Both rooms are as they were.
abbrev pub KeptValues : ValueRoomsMut → ValueRoomsMut → Type 0
KeptValues a b = SameValues a b × (b.low.now ≡ a.low.now) × (b.high.now ≡ a.high.now)

abbrev pub known : Option Bool → Value
known None = unassigned
known (Some b) = is b
