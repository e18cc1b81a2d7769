-- The two rooms of remaining weights, as they are lent.
use Rattle.std.specs.Prelude.{◌≡◌, length}
use Rattle.weights.specs.declared.WeightRoomsMut.{WeightRoomsMut}

-- Both fields are the references that they were, to rooms of the lengths that they had.
abbrev pub SameWeights : WeightRoomsMut → WeightRoomsMut → Type 0
SameWeights a b =
    (b.wishes.ghost_name ≡ a.wishes.ghost_name) × (b.outputs.ghost_name ≡ a.outputs.ghost_name)
    × (length b.wishes.now ≡ length a.wishes.now) × (length b.outputs.now ≡ length a.outputs.now)
