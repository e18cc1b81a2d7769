-- The rooms of the clauses that a hint can name, as they are lent.
use Rattle.std.specs.Prelude.{List, ℕ, ℤ}
use Rattle.hints.specs.Hinted.{Rooms}
use Rattle.hints.specs.declared.Given.{Given}
use Rattle.hints.specs.declared.Clauses.{Clauses}

-- What the given ones hold, with the derived clauses beside them.
abbrev pub given_with : Given → List ℤ → List ℕ → Rooms
given_with g derived derived_ends =
    record {
      rules = g.rules.literals.now;
      rule_ends = g.rules.ends.now;
      wishes = g.wishes.literals.now;
      wish_ends = g.wishes.ends.now;
      inputs = g.counters.literals.now;
      counter_ends = g.counters.ends.now;
      derived = derived;
      derived_ends = derived_ends;
    }

-- What all of them hold.
abbrev pub held_in : Clauses → Rooms
held_in c = given_with c.given c.derived.literals.now c.derived.ends.now
