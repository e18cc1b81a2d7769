-- What the lowest number of a table tells of the table, and of one that goes on after it.
use mathlib.Core.Path.{◌≡◌, refl}
use mathlib.Core.Bool.{Bool, true, false, not, ◌&&◌}
use mathlib.Core.List.{List, [], ◌∷◌, ◌++◌}
use Prim.Native.Nat.{◌<◌}
use native.Mathlib.Omega.{arith}
use lib.IntN.{ℤ}
use Rattle.paper.specs.declared.Width.{Width}
use Rattle.paper.specs.Clauses.{Clause, pick}
use Rattle.paper.specs.Answers.{Refusal, clear, answer_or}
use Rattle.paper.specs.Steps.{admission}
use Rattle.paper.specs.declared.Answer.{Answer}
use Rattle.paper.specs.declared.Answer.TheVariants.{Refused}
use Rattle.paper.specs.declared.Reason.{Reason}
use Rattle.paper.specs.Reasons.{reason_number}
use Rattle.clauses.specs.Lowest.{number_of, lowest, Plain}
use Rattle.clauses.proofs.Lists.{unlike}

pub admission_plain : (u : Width) (allowed : ℤ → Bool) (c : Clause) → Plain (admission u allowed c)
admission_plain u allowed c = (refl, omega arith, (refl, omega arith, (refl, omega arith, tt)))

-- Where the number is 0, no line applies.
pub none_applies : (t : List Refusal) → Plain t → lowest t ≡ 0 → clear t ≡ true
none_applies [] plain e = refl
none_applies (line ∷ t) plain e = go line.applies (none_applies t plain.2) e
  where
    go : (b : Bool) → (lowest t ≡ 0 → clear t ≡ true) → pick b (number_of line) (lowest t) ≡ 0 → (not b && clear t) ≡ true
    go true later e = absurd (omega (arith, plain.1))
    go false later e = later e

-- Where it is not, it is the answer, whatever follows the table.
pub lowest_answers : (t rest : List Refusal) (other : Answer) → Plain t → 0 < lowest t
    → (answer_or (t ++ rest) other ≡ Refused (lowest t)) × (clear (t ++ rest) ≡ false)
lowest_answers [] rest other plain h = absurd (omega arith)
lowest_answers (line ∷ t) rest other plain h = go line.applies (lowest_answers t rest other plain.2) h
  where
    go : (b : Bool)
        → (0 < lowest t → (answer_or (t ++ rest) other ≡ Refused (lowest t)) × (clear (t ++ rest) ≡ false))
        → 0 < pick b (number_of line) (lowest t)
        → (pick b line.answer (answer_or (t ++ rest) other) ≡ Refused (pick b (number_of line) (lowest t)))
        × ((not b && clear (t ++ rest)) ≡ false)
    go true later h = (plain.0, refl)
    go false later h = later h

-- Where no line of a table applies, what follows it decides.
pub clear_passes : (t rest : List Refusal) (other : Answer) → clear t ≡ true
    → (answer_or (t ++ rest) other ≡ answer_or rest other) × (clear (t ++ rest) ≡ clear rest)
clear_passes [] rest other e = (refl, refl)
clear_passes (line ∷ t) rest other e = go line.applies (clear_passes t rest other) e
  where
    go : (b : Bool)
        → (clear t ≡ true → (answer_or (t ++ rest) other ≡ answer_or rest other) × (clear (t ++ rest) ≡ clear rest))
        → (not b && clear t) ≡ true
        → (pick b line.answer (answer_or (t ++ rest) other) ≡ answer_or rest other)
        × ((not b && clear (t ++ rest)) ≡ clear rest)
    go true later e = unlike e
    go false later e = later e

-- No reason has the number 0.
pub reason_some : (reason : Reason) → reason_number reason ≡ 0 → ⊥
reason_some = grind arith
