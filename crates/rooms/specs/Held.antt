-- What lent rooms hold of a session. The rooms are functions of it, so that to say what they hold pins every byte of them.
use Rattle.std.specs.Prelude.{◌≡◌, List, ◌++◌, map, ℕ, ◌*◌, ◌-◌, ◌≤◌, ℤ, pos, length, replicate}
use Rattle.paper.specs.Sizes.{Room, rule_room, wish_room, derived_room, numbers_end}
use Rattle.paper.specs.declared.Width.{Width}
use Rattle.paper.specs.Clauses.{Clause}
use Rattle.paper.specs.Session.{Wish, Counter, Session, remaining}
use Rattle.clauses.specs.Family.{Holds}
use Rattle.weights.specs.Weights.{Weighs}

-- Two rooms hold a family in the room that the description gives it.
abbrev pub HeldIn : Room → List ℤ → List ℕ → List Clause → Type 0
HeldIn room literals ends family = Holds room.literals room.clauses literals ends (length family) family

abbrev pub HeldRules : List ℤ → List ℕ → Session → Type 0
HeldRules literals ends s = HeldIn rule_room literals ends s.sheet.rules

unfoldable pub weights_room : ℕ → List Wish → List ℕ
weights_room most wishes = map (λ x. x.weight) wishes ++ replicate (most - length wishes) 0

-- The wishes as a family of clauses: a wish's own variable takes no room.
abbrev pub wish_family : List Wish → List Clause
wish_family = map (λ (x : Wish). x.literals)

pub record HeldWishes (literals : List ℤ) (ends weights : List ℕ) (s : Session) : Type 0 where
  pub clauses : HeldIn wish_room literals ends (wish_family s.sheet.wishes)
  pub weights_are : weights ≡ weights_room wish_room.clauses s.sheet.wishes

abbrev pub HeldDerived : List ℤ → List ℕ → Session → Type 0
HeldDerived literals ends s = HeldIn derived_room literals ends s.work.derived

-- The inputs of the counters are a family too, of positive literals. Its room serves every width.
abbrev pub counter_room : Width → Room
counter_room u = record { clauses = u.counters; literals = u.counters * u.literals }

abbrev pub inputs_of : Counter → Clause
inputs_of x = map pos x.inputs

abbrev pub HeldCounters : List ℤ → List ℕ → Session → Type 0
HeldCounters inputs ends s = HeldIn (counter_room s.sheet.width) inputs ends (map inputs_of s.work.counters)

-- The remaining weights.
abbrev pub HeldWeights : List ℕ → List ℕ → Session → Type 0
HeldWeights wishes outputs s = Weighs s.sheet.width wishes outputs (remaining s.sheet s.work)

-- The value rooms, end to end, are zeros, with a place for every variable.
pub record Zeros (u : Width) (values : List ℕ) : Type 0 where
  pub size : ℕ
  pub are : values ≡ replicate size 0
  pub enough : numbers_end u ≤ size

-- ── All rooms of a session ──

pub record Rooms : Type 0 where
  pub rules : List ℤ
  pub rule_ends : List ℕ
  pub wishes : List ℤ
  pub wish_ends : List ℕ
  pub wish_weights : List ℕ
  pub derived : List ℤ
  pub derived_ends : List ℕ
  pub inputs : List ℤ
  pub counter_ends : List ℕ
  pub left : List ℕ
  pub outputs : List ℕ

-- ── The rooms that a step writes, in place of the others ──

abbrev pub with_rules : Rooms → List ℤ → List ℕ → Rooms
with_rules rooms literals ends =
    record {
      rules = literals;
      rule_ends = ends;
      wishes = rooms.wishes;
      wish_ends = rooms.wish_ends;
      wish_weights = rooms.wish_weights;
      derived = rooms.derived;
      derived_ends = rooms.derived_ends;
      inputs = rooms.inputs;
      counter_ends = rooms.counter_ends;
      left = rooms.left;
      outputs = rooms.outputs;
    }

abbrev pub with_wishes : Rooms → List ℤ → List ℕ → List ℕ → List ℕ → Rooms
with_wishes rooms literals ends weights left =
    record {
      rules = rooms.rules;
      rule_ends = rooms.rule_ends;
      wishes = literals;
      wish_ends = ends;
      wish_weights = weights;
      derived = rooms.derived;
      derived_ends = rooms.derived_ends;
      inputs = rooms.inputs;
      counter_ends = rooms.counter_ends;
      left = left;
      outputs = rooms.outputs;
    }

abbrev pub with_derived : Rooms → List ℤ → List ℕ → Rooms
with_derived rooms literals ends =
    record {
      rules = rooms.rules;
      rule_ends = rooms.rule_ends;
      wishes = rooms.wishes;
      wish_ends = rooms.wish_ends;
      wish_weights = rooms.wish_weights;
      derived = literals;
      derived_ends = ends;
      inputs = rooms.inputs;
      counter_ends = rooms.counter_ends;
      left = rooms.left;
      outputs = rooms.outputs;
    }

abbrev pub with_counters : Rooms → List ℤ → List ℕ → List ℕ → List ℕ → Rooms
with_counters rooms inputs ends left outputs =
    record {
      rules = rooms.rules;
      rule_ends = rooms.rule_ends;
      wishes = rooms.wishes;
      wish_ends = rooms.wish_ends;
      wish_weights = rooms.wish_weights;
      derived = rooms.derived;
      derived_ends = rooms.derived_ends;
      inputs = inputs;
      counter_ends = ends;
      left = left;
      outputs = outputs;
    }

pub record Held (rooms : Rooms) (s : Session) : Type 0 where
  pub rules : HeldRules rooms.rules rooms.rule_ends s
  pub wishes : HeldWishes rooms.wishes rooms.wish_ends rooms.wish_weights s
  pub derived : HeldDerived rooms.derived rooms.derived_ends s
  pub counters : HeldCounters rooms.inputs rooms.counter_ends s
  pub weights : HeldWeights rooms.left rooms.outputs s
