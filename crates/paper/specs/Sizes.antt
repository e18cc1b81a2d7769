-- "Sizes": how much a session holds, and which variable has which number.
use Rattle.std.specs.Prelude.{ℕ, ◌+◌, ◌*◌}
use Rattle.paper.specs.declared.Width.{Width}

-- The width of a session that a record of kind 1 opens.
abbrev pub narrow : Width
narrow = record { literals = 64; stride = 384; counters = 128 }

-- Problem variables, a wish's weight and the hints of a derivation, at most.
abbrev pub most_variables : ℕ
most_variables = 2000

abbrev pub most_weight : ℕ
most_weight = 1000000

abbrev pub most_hints : ℕ
most_hints = 256

-- The room of a family of clauses: so many of them, with so many literals together.
pub record Room : Type 0 where
  pub clauses : ℕ
  pub literals : ℕ

abbrev pub rule_room : Room
rule_room = record { clauses = 2048; literals = 16384 }

abbrev pub wish_room : Room
wish_room = record { clauses = 512; literals = 8192 }

abbrev pub derived_room : Room
derived_room = record { clauses = 4096; literals = 16384 }

-- Variables 1 to n are the problem's. Wish variables stand between them and the counters, so a late wish moves no counter.
abbrev pub first_wish : ℕ
first_wish = 2001

abbrev pub wish_variable : ℕ → ℕ
wish_variable j = first_wish + j

abbrev pub first_counter : ℕ
first_counter = 4001

-- Variable t of counter c is `counter_start u c + t`.
abbrev pub counter_start : Width → ℕ → ℕ
counter_start u c = first_counter + u.stride * c

-- Every variable's number is below this.
abbrev pub numbers_end : Width → ℕ
numbers_end u = counter_start u u.counters
