-- An assignment in a room: a byte to each variable, at the variable's number. The room is two lent ones end to end, for one alone
-- would pass 64 KiB. A variable past the end reads as unassigned.
use Rattle.std.specs.Prelude.{◌≡◌, Bool, true, false, List, ℕ, zero, suc, ◌<◌, ltb, ℤ, pos, negsuc, length, get_or, set}
use Rattle.paper.specs.Clauses.{variable}
use Rattle.paper.specs.Derivation.{Value, unassigned, is, Assigned, opposite, variable_value}

-- What a byte says.
abbrev pub coded : ℕ → Value
coded zero = unassigned
coded (suc zero) = is true
coded (suc (suc n)) = is false

-- The byte that is written.
abbrev pub code : Value → ℕ
code unassigned = 0
code (is true) = 1
code (is false) = 2

abbrev pub literal_in : List ℕ → ℤ → Value
literal_in room (pos v) = coded (get_or room v 0)
literal_in room (negsuc v) = opposite (coded (get_or room (suc v) 0))

abbrev pub assigned_in : List ℕ → Assigned → List ℕ
assigned_in room x = set room x.variable (code (is x.value))

abbrev pub unassigned_in : List ℕ → ℕ → List ℕ
unassigned_in room v = set room v 0

-- The literal's variable has a place in a room of that size.
abbrev pub placed : ℕ → ℤ → Bool
placed size l = ltb (variable l) size

-- The room says of each variable that has a place in it what the assignment says.
abbrev pub Represents : List ℕ → List Assigned → Type 0
Represents room xs = (v : ℕ) → v < length room → coded (get_or room v 0) ≡ variable_value xs v
