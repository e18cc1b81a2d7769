-- What the two work rooms say while an arrangement is weighed: a byte to a wish, 1 where it is broken, and a byte to a counter,
-- how many of its inputs are true.
use Rattle.std.specs.Prelude.{◌≡◌, List, ℕ, ◌-◌, ◌/◌, ◌%◌, ◌<◌, ◌≤◌, ltb, ℤ, length, get_or}
use Rattle.paper.specs.Sizes.{wish_room, first_wish, wish_variable, first_counter}
use Rattle.paper.specs.declared.Width.{Width}
use Rattle.paper.specs.Clauses.{Truth, variable, only, pick}
use Rattle.paper.specs.Session.{Session, no_counter}
use Rattle.paper.specs.Truth.{truth}
use Rattle.paper.specs.Runs.{Reached}
use Rattle.paper.proofs.Trees.{true_among}
use Rattle.weights.specs.Weights.{wish_table, output_table}
use Rattle.rooms.specs.Held.{HeldIn, HeldCounters, wish_family}

-- A room of `size` bytes has its first `count` places marked by f, and zeros after them.
pub record Marked (size : ℕ) (room : List ℕ) (count : ℕ) (f : ℕ → ℕ) : Type 0 where
  pub size_is : length room ≡ size
  pub marks : (i : ℕ) → i < count → get_or room i 0 ≡ f i
  pub zeros : (i : ℕ) → count ≤ i → get_or room i 0 ≡ 0

-- The inputs of counter c.
abbrev pub inputs_at : Session → ℕ → List ℕ
inputs_at s c = (get_or s.work.counters c no_counter).inputs

abbrev pub broken_mark : Truth → ℕ → ℕ
broken_mark t j = only (t (wish_variable j)) 1

abbrev pub count_mark : Session → Truth → ℕ → ℕ
count_mark s t c = true_among t (inputs_at s c)

-- The truth of a variable as the two rooms say it, 1 or 0.
abbrev pub truth_in : Width → List ℕ → List ℕ → ℕ → ℕ
truth_in u broken counts v =
    pick (ltb v first_counter) (pick (ltb v first_wish) 0 (get_or broken (v - first_wish) 0))
    (only (ltb ((v - first_counter) % u.stride) (get_or counts ((v - first_counter) / u.stride) 0)) 1)

-- An input stands in its room as a literal.
abbrev pub input_truth : Width → List ℕ → List ℕ → ℤ → ℕ
input_truth u broken counts l = truth_in u broken counts (variable l)

-- What the wishes are weighed by: t, the truth of every variable under arrangement a, the rooms that hold them, and f, their
-- remaining weights.
pub record OverWishes
    (s : Session) (a t : Truth) (f : ℕ → ℕ) (size count : ℕ) (literals : List ℤ) (ends left : List ℕ) : Type 0 where
  pub reached : Reached s
  pub truth_is : t ≡ truth s.sheet s.work a
  pub count_is : count ≡ length s.sheet.wishes
  pub held : HeldIn wish_room literals ends (wish_family s.sheet.wishes)
  pub left_are : left ≡ wish_table f
  pub enough : count ≤ size

-- What the counters are weighed by, once every broken wish is marked.
pub record OverCounters
    (s : Session) (a t : Truth) (f : ℕ → ℕ) (u : Width) (size count : ℕ) (inputs : List ℤ) (ends outputs broken : List ℕ)
    : Type 0 where
  pub reached : Reached s
  pub truth_is : t ≡ truth s.sheet s.work a
  pub width_is : u ≡ s.sheet.width
  pub count_is : count ≡ length s.work.counters
  pub held : HeldCounters inputs ends s
  pub outputs_are : outputs ≡ output_table u f
  pub broken_size : ℕ
  pub marked : Marked broken_size broken (length s.sheet.wishes) (broken_mark t)
  pub enough : count ≤ size
