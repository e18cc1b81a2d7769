-- Remaining weights in two rooms: a place for each wish variable, and for each counter as many places as a clause has literals at
-- most, for the outputs of its root. The rooms are tables of a function of the variable, so that to say which weights they hold
-- pins every byte of them.
use Rattle.std.specs.Prelude.{◌≡◌, Bool, false, ◌&&◌, List, [], ◌∷◌, map, ℕ, zero, suc, ◌+◌, ◌-◌, ◌*◌, ◌/◌, ◌%◌, ◌≤◌, ltb, ℤ, length, Option, Some, None}
use Rattle.paper.specs.Sizes.{wish_room, first_wish, wish_variable, first_counter, counter_start}
use Rattle.paper.specs.declared.Width.{Width}
use Rattle.paper.specs.Clauses.{Clause, variable, positive, every, pick}
use Rattle.paper.specs.Session.{spread}
use Rattle.paper.specs.Steps.{least}
use Rattle.weights.specs.declared.Place.{Place}
use Rattle.weights.specs.declared.Place.TheVariants.{InWishes, InOutputs}

-- f at 0, 1 and so on, n of them.
unfoldable pub table : ℕ → (ℕ → ℕ) → List ℕ
table zero f = []
table (suc n) f = f 0 ∷ table n (λ i. f (suc i))

-- ── What the rooms hold ──

-- A counter's root outputs end before the next counter begins.
abbrev pub Spaced : Width → Type 0
Spaced u = u.literals ≤ u.stride

-- The variable whose weight stands at place i of the outputs room.
abbrev pub output_variable : Width → ℕ → ℕ
output_variable u i = counter_start u (i / u.literals) + i % u.literals

abbrev pub output_places : Width → ℕ
output_places u = u.counters * u.literals

abbrev pub wish_table : (ℕ → ℕ) → List ℕ
wish_table f = table wish_room.clauses (λ j. f (wish_variable j))

abbrev pub output_table : Width → (ℕ → ℕ) → List ℕ
output_table u f = table (output_places u) (λ i. f (output_variable u i))

-- The two rooms hold the weights f.
pub record Weighs (u : Width) (wishes outputs : List ℕ) (f : ℕ → ℕ) : Type 0 where
  pub wishes_are : wishes ≡ wish_table f
  pub outputs_are : outputs ≡ output_table u f

-- ── Where a variable's weight stands ──

-- The place may lie past the end of its room.
abbrev pub place_of : Width → ℕ → Option Place
place_of u v =
    pick (ltb v first_counter) (pick (ltb v first_wish) None (Some (InWishes (v - first_wish))))
    (pick (ltb ((v - first_counter) % u.stride) u.literals)
    (Some (InOutputs (u.literals * ((v - first_counter) / u.stride) + (v - first_counter) % u.stride)))
    None)

abbrev pub in_room : Width → Option Place → Bool
in_room u (Some (InWishes at)) = ltb at wish_room.clauses
in_room u (Some (InOutputs at)) = ltb at (output_places u)
in_room u None = false

abbrev pub placed : Width → ℕ → Bool
placed u v = in_room u (place_of u v)

-- A variable without a place has no weight.
abbrev pub Elsewhere : Width → (ℕ → ℕ) → Type 0
Elsewhere u f = (v : ℕ) → placed u v ≡ false → f v ≡ 0

-- ── Weights after a change ──

-- Each variable of the list gains w.
abbrev pub gained : (ℕ → ℕ) → ℕ → List ℕ → ℕ → ℕ
gained f w xs v = f v + spread w xs v

-- Each variable of the list loses w, or what it has left.
abbrev pub lost : (ℕ → ℕ) → ℕ → List ℕ → ℕ → ℕ
lost f w xs v = f v - spread w xs v

-- ── Members ──

-- A member of a core is positive, with weight left.
abbrev pub is_member : (ℕ → ℕ) → ℤ → Bool
is_member f l = positive l && ltb 0 (f (variable l))

-- The weight that a literal has as a member, none where it is no member.
abbrev pub member_weight : (ℕ → ℕ) → ℤ → Option ℕ
member_weight f l = pick (is_member f l) (Some (f (variable l))) None

-- The least weight of a member; none where the clause is empty or has a literal that is no member.
abbrev pub least_member : (ℕ → ℕ) → Clause → Option ℕ
least_member f c = pick (ltb 0 (length c) && every (is_member f) c) (Some (least f (map variable c))) None
