-- The two rooms of a family, as they are lent.
use Rattle.std.specs.Prelude.{◌≡◌, length}
use Rattle.clauses.specs.declared.FamilyRoomsMut.{FamilyRoomsMut}

-- Both fields are the references that they were, to rooms of the lengths that they had.
abbrev pub SameFamily : FamilyRoomsMut → FamilyRoomsMut → Type 0
SameFamily a b =
    (b.literals.ghost_name ≡ a.literals.ghost_name) × (b.ends.ghost_name ≡ a.ends.ghost_name)
    × (length b.literals.now ≡ length a.literals.now) × (length b.ends.now ≡ length a.ends.now)
