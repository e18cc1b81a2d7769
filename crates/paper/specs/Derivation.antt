-- "Derive": the hints are read in order under an assignment, and nothing but the clause and the clauses named decides.
use Rattle.std.specs.Prelude.{Bool, true, false, not, List, [], ◌∷◌, ℕ, suc, ℤ, pos, negsuc, eqb}
use Rattle.paper.specs.Clauses.{Clause}
use Rattle.paper.specs.declared.Reading.{Reading}
use Rattle.paper.specs.declared.Reading.TheVariants.{AllFalse, Forces, AlreadyTrue, StillOpen}

pub data Value : Type 0 where
  unassigned : Value
  is : Bool → Value

-- Variables with their values, the latest first.
pub record Assigned : Type 0 where
  pub variable : ℕ
  pub value : Bool

-- The assignment that makes a literal so.
abbrev pub assign : ℤ → Bool → Assigned
assign (pos v) b = record { variable = v; value = b }
assign (negsuc v) b = record { variable = suc v; value = not b }

abbrev pub value_or : Bool → Bool → Value → Value
value_or true b other = is b
value_or false b other = other

abbrev pub variable_value : List Assigned → ℕ → Value
variable_value [] v = unassigned
variable_value (x ∷ xs) v = value_or (eqb v x.variable) x.value (variable_value xs v)

abbrev pub opposite : Value → Value
opposite unassigned = unassigned
opposite (is b) = is (not b)

abbrev pub literal_value : List Assigned → ℤ → Value
literal_value xs (pos v) = variable_value xs v
literal_value xs (negsuc v) = opposite (variable_value xs (suc v))

-- What a clause says under an assignment, with one unassigned literal more.
abbrev pub with_open : ℤ → Reading → Reading
with_open l AllFalse = Forces l
with_open l (Forces k) = StillOpen
with_open l AlreadyTrue = AlreadyTrue
with_open l StillOpen = StillOpen

abbrev pub with_literal : ℤ → Value → Reading → Reading
with_literal l unassigned r = with_open l r
with_literal l (is true) r = AlreadyTrue
with_literal l (is false) r = r

abbrev pub read : List Assigned → Clause → Reading
read xs [] = AllFalse
read xs (l ∷ c) = with_literal l (literal_value xs l) (read xs c)

-- An ending must be the last hint: 0 where it is, else its place.
abbrev pub ending : ℕ → List Clause → ℕ
ending place [] = 0
ending place (c ∷ cs) = place

abbrev pub follow : Reading → ℕ → ℕ → (ℤ → ℕ) → ℕ
follow AllFalse place end on = end
follow (Forces l) place end on = on l
follow AlreadyTrue place end on = place
follow StillOpen place end on = place

-- 0 where the hints show the clause; else the place of the first that does not fit, one past the last where nothing ended it.
abbrev pub misfit : List Assigned → ℕ → List Clause → ℕ
misfit xs place [] = place
misfit xs place (c ∷ cs) = follow (read xs c) place (ending place cs) (λ l. misfit (assign l true ∷ xs) (suc place) cs)

-- All literals of the new clause are taken as false.
abbrev pub assume : Clause → List Assigned
assume [] = []
assume (l ∷ c) = assign l false ∷ assume c

-- The hints show the clause.
abbrev pub shows : Clause → List Clause → Bool
shows c hints = eqb (misfit (assume c) 1 hints) 0
