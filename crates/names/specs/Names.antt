-- What a session knows names in. Where a counter variable stands, found by dividing; `past` is how far its number is from the first
-- counter's first variable. And what a hint of the code names.
use Rattle.std.specs.Prelude.{◌≡◌, Bool, List, ℕ, ℤ, ◌/◌, ◌%◌, ltb, get_or}
use Rattle.paper.specs.declared.Width.{Width}
use Rattle.paper.specs.declared.Tally.{Tally}
use Rattle.paper.specs.Counters.{tree_of, variables}
use Rattle.paper.specs.Session.{Session, Counter, tally_of, no_counter, Hint as PaperHint, of_rule, of_wish, of_counter, of_derived, of_nothing}
use Rattle.paper.specs.Runs.{Reached}
use Rattle.rooms.specs.Held.{HeldCounters}
use Rattle.names.specs.declared.Hint.{Hint}
use Rattle.names.specs.declared.Hint.TheVariants.{Rule, Wish, Counter as OfCounter, Derived, Nothing}

-- A tally and the room of the counters' ends are a reached session's. The room of the inputs may be any that goes with the ends.
pub record Knows (tally : Tally) (counter_ends : List ℕ) (s : Session) : Type 0 where
  pub reached : Reached s
  pub tally_is : tally ≡ tally_of s
  pub inputs : List ℤ
  pub counters : HeldCounters inputs counter_ends s

-- The quotient is a counter's number, and the remainder one of its variables. An absent counter has none.
abbrev pub in_counter : Width → List Counter → ℕ → Bool
in_counter u xs past = ltb (past % u.stride) (variables (tree_of (get_or xs (past / u.stride) no_counter).inputs))

abbrev pub said : Hint → PaperHint
said (Rule i) = of_rule i
said (Wish j) = of_wish j
said (OfCounter c i) = of_counter c i
said (Derived d) = of_derived d
said Nothing = of_nothing
