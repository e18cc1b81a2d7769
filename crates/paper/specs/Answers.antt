-- "Numbers given back": the number and the two values of each answer, and how refusals are chosen.
use Rattle.std.specs.Prelude.{Bool, not, List, [], ◌∷◌, ℕ}
use Rattle.paper.specs.Clauses.{every, pick}
use Rattle.paper.specs.declared.Answer.{Answer}
use Rattle.paper.specs.declared.Numbers.{Numbers}
use Rattle.paper.specs.declared.Answer.TheVariants.{Opened, Rule, Wish, Derived, Core, Best, Counted, Broken, Refused}

abbrev pub give : ℕ → ℕ → ℕ → Numbers
give r x y = record { number = r; first = x; second = y }

-- What a line gives back: a number, and two values.
abbrev pub numbers : Answer → Numbers
numbers (Opened n) = give 0 n 0
numbers (Rule i) = give 0 i 0
numbers (Wish j v) = give 0 j v
numbers (Derived d literals) = give 0 d literals
numbers (Core bound w) = give 0 bound w
numbers (Best cost bound) = give 1 cost bound
numbers (Counted cost bound) = give 0 cost bound
numbers (Broken i) = give 24 i 0
numbers (Refused r) = give r 0 0

-- A line of the table of refusals: the answer, and whether it applies.
pub record Refusal : Type 0 where
  pub applies : Bool
  pub answer : Answer

abbrev pub refuse : ℕ → Bool → Refusal
refuse r b = record { applies = b; answer = Refused r }

-- No line of a table applies.
abbrev pub clear : List Refusal → Bool
clear = every (λ r. not r.applies)

-- The lowest applicable refusal wins: a table stands in the order of its numbers. Where none applies, the answer is `other`.
abbrev pub answer_or : List Refusal → Answer → Answer
answer_or [] other = other
answer_or (r ∷ rs) other = pick r.applies r.answer (answer_or rs other)

-- The number of a table's first line that applies; 0 where none does.
abbrev pub number_of : Refusal → ℕ
number_of r = (numbers r.answer).number

abbrev pub lowest : List Refusal → ℕ
lowest [] = 0
lowest (r ∷ rs) = pick r.applies (number_of r) (lowest rs)
