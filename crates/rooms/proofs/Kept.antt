-- Before the first call a caller with zeroed rooms keeps the fresh session.
use mathlib.Core.Path.{◌≡◌, refl}
use mathlib.Core.List.{◌++◌}
use lib.Dec.{lit≤}
use lib.ListN.{replicate, replicate-append-replicate}
use Rattle.paper.specs.declared.Tally.{Tally}
use Rattle.paper.specs.Session.{fresh, tally_of}
use Rattle.paper.proofs.Reach.{fresh_reached}
use Rattle.rooms.specs.Kept.{Kept}
use Rattle.rooms.specs.Owned.{zeros}
use Rattle.rooms.specs.Held.{Rooms}
use Rattle.rooms.specs.declared.Rooms.{Rooms as Owned}
use Rattle.rooms.proofs.Whole.{zeroed, fresh_held}

pub nothing_kept : Kept (record { variables = 0; rules = 0; wishes = 0; derived = 0; counters = 0; bound = 0 }) zeroed
    (replicate 4001 0 ++ replicate 65536 0) fresh
nothing_kept = record {
  reached = fresh_reached;
  counts = refl;
  held = fresh_held;
  zeros = record { size = 69537; are = replicate-append-replicate 4001 65536 0; enough = lit≤ tt };
}

-- The rooms that hold the session, of those that a caller owns.
abbrev pub rooms_of : Owned → Rooms
rooms_of rooms =
    record {
      rules = rooms.rules;
      rule_ends = rooms.rule_ends;
      wishes = rooms.wishes;
      wish_ends = rooms.wish_ends;
      wish_weights = rooms.wish_weights;
      derived = rooms.derived;
      derived_ends = rooms.derived_ends;
      inputs = rooms.inputs;
      counter_ends = rooms.counter_ends;
      left = rooms.left;
      outputs = rooms.outputs;
    }

-- The same of rooms that it owns.
pub fresh_kept : (t : Tally) (rooms : Owned) → t ≡ tally_of fresh → rooms ≡ zeros → Kept t (rooms_of rooms) (rooms.low ++ rooms.high) fresh
fresh_kept t rooms counts blank = rw (counts, blank) nothing_kept

-- The counts of a fresh session are zeros.
pub fresh_counts : (t : Tally)
    → (t.variables ≡ 0) × ((t.rules ≡ 0) × ((t.wishes ≡ 0) × ((t.derived ≡ 0) × ((t.counters ≡ 0) × (t.bound ≡ 0))))) → t ≡ tally_of fresh
fresh_counts t (variables, (rules, (wishes, (derived, (counters, bound))))) =
    λ i. record {
      variables = variables i;
      rules = rules i;
      wishes = wishes i;
      derived = derived i;
      counters = counters i;
      bound = bound i;
    }
