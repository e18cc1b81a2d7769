-- Literals, clauses and their truth. A literal is what a signed 32-bit number reads as: `pos v` is variable v, `negsuc v` is
-- not variable suc v.
use Rattle.std.specs.Prelude.{Bool, true, false, not, ◌||◌, ◌&&◌, List, [], ◌∷◌, ℕ, zero, suc, ◌+◌, ℤ, pos, negsuc, eqb, ltb, length}

abbrev pub Clause : Type 0
Clause = List ℤ

abbrev pub variable : ℤ → ℕ
variable (pos v) = v
variable (negsuc v) = suc v

abbrev pub positive : ℤ → Bool
positive (pos v) = ltb 0 v
positive (negsuc v) = false

-- What holds of each variable, by its number. An arrangement is one, of which only the problem variables are read.
abbrev pub Truth : Type 0
Truth = ℕ → Bool

abbrev pub literal_true : Truth → ℤ → Bool
literal_true t (pos v) = t v
literal_true t (negsuc v) = not (t (suc v))

abbrev pub clause_true : Truth → Clause → Bool
clause_true t [] = false
clause_true t (l ∷ c) = literal_true t l || clause_true t c

abbrev pub every {ℓ} : {A : Type ℓ} → (A → Bool) → List A → Bool
every p [] = true
every p (x ∷ xs) = p x && every p xs

abbrev pub has_variable : ℕ → Clause → Bool
has_variable v [] = false
has_variable v (l ∷ c) = eqb v (variable l) || has_variable v c

abbrev pub variable_twice : Clause → Bool
variable_twice [] = false
variable_twice (l ∷ c) = has_variable (variable l) c || variable_twice c

-- The literals of a family together.
abbrev pub literals_in : List Clause → ℕ
literals_in [] = 0
literals_in (c ∷ cs) = length c + literals_in cs

-- The number where the test passes, else 0.
abbrev pub only : Bool → ℕ → ℕ
only true w = w
only false w = 0

abbrev pub pick {ℓ} : {A : Type ℓ} → Bool → A → A → A
pick true x y = x
pick false x y = y

-- The n numbers from a on.
abbrev pub from : ℕ → ℕ → List ℕ
from a zero = []
from a (suc n) = a ∷ from (suc a) n
