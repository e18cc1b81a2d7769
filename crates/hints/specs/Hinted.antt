-- The rooms that the clauses of hints stand in, and what is said of a reading besides its result.
use Rattle.std.specs.Prelude.{◌≡◌, List, ℕ, ℤ}
use Rattle.paper.specs.Sizes.{wish_room}
use Rattle.paper.specs.Session.{Session}
use Rattle.paper.specs.Derivation.{unassigned}
use Rattle.paper.specs.declared.Reading.{Reading}
use Rattle.paper.specs.declared.Reading.TheVariants.{Forces}
use Rattle.values.specs.Values.{literal_in}
use Rattle.rooms.specs.Held.{HeldIn, HeldRules, HeldDerived, HeldCounters, wish_family}

-- The rooms of every clause that a hint can name.
pub record Rooms : Type 0 where
  pub rules : List ℤ
  pub rule_ends : List ℕ
  pub wishes : List ℤ
  pub wish_ends : List ℕ
  pub inputs : List ℤ
  pub counter_ends : List ℕ
  pub derived : List ℤ
  pub derived_ends : List ℕ

pub record HeldClauses (rooms : Rooms) (s : Session) : Type 0 where
  pub rules : HeldRules rooms.rules rooms.rule_ends s
  pub wishes : HeldIn wish_room rooms.wishes rooms.wish_ends (wish_family s.sheet.wishes)
  pub counters : HeldCounters rooms.inputs rooms.counter_ends s
  pub derived : HeldDerived rooms.derived rooms.derived_ends s

-- A literal that a reading forces had no value.
abbrev pub ForcesOpen : List ℕ → Reading → Type 0
ForcesOpen room r = (l : ℤ) → r ≡ Forces l → literal_in room l ≡ unassigned
