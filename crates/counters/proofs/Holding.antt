-- A clause in room for three literals.
use mathlib.Core.Path.{◌≡◌, refl, sym, ap, ap₂, ◌∙◌}
use mathlib.Core.List.{[], ◌∷◌, ◌++◌}
use Prim.Native.Nat.{ℕ, zero, suc, ◌+◌, ◌-◌, ◌≤◌, min}
use native.Mathlib.Omega.{arith}
use lib.IntN.{ℤ, pos, negsuc}
use lib.ListN.{length, get_or, replicate, length-take, length-append, length-replicate}
use Rattle.paper.specs.Clauses.{Clause}
use Rattle.paper.specs.Counters.{previous, unless}
use Rattle.counters.specs.Numbered.{Holds}
use Rattle.counters.specs.declared.Three.{Three}

module _ (room : Three) (clause : Clause) (h : Holds room clause) where
  long : room.length ≡ length clause
  long =
      let all : length room.literals ≡ length clause + (3 - length clause)
      = ap length h.padded ∙ length-append clause _ ∙ ap (λ n. length clause + n) (length-replicate _ _) in
      let kept : min room.length (length room.literals) ≡ length clause = sym (length-take _ _) ∙ ap length h.whole in
      let few = h.few in
      omega arith

-- What is held leaves one answer.
pub one_answer : (r s : Three) (clause : Clause) → Holds r clause → Holds s clause → r ≡ s
one_answer r s clause h k =
    ap₂ (λ xs n. record { literals = xs; length = n }) (h.padded ∙ sym k.padded) (long r clause h ∙ sym (long s clause k))

-- The room with one more literal in front.
abbrev in_front : ℤ → Three → Three
in_front l room =
    record {
      literals = l ∷ get_or room.literals 0 (pos 0) ∷ get_or room.literals 1 (pos 0) ∷ [];
      length = room.length + 1;
    }

pub in_front_lem : (l : ℤ) (room : Three) (clause : Clause) → room.length ≤ 2 → Holds room clause
    → Holds (in_front l room) (l ∷ clause)
in_front_lem l room clause two h = go clause (long room clause h) h.padded
  where
    go : (c : Clause) → room.length ≡ length c → room.literals ≡ c ++ replicate (3 - length c) (pos 0)
        → Holds (in_front l room) (l ∷ c)
    go [] e p = record { few = omega arith; whole = rw e; padded = rw p }
    go (x ∷ []) e p = record { few = omega arith; whole = rw (e, p); padded = rw p }
    go (x ∷ (y ∷ [])) e p = record { few = omega arith; whole = rw (e, p); padded = rw p }
    go (x ∷ (y ∷ (z ∷ c))) e p = absurd (omega arith)

pub previous_is : (n : ℕ) → previous n ≡ n - 1
previous_is zero = refl
previous_is (suc n) = omega arith

pub unless_some : (out : ℕ → ℕ) (k : ℕ) (rest : Clause) → (k ≡ 0 → ⊥) → unless out k rest ≡ negsuc (out (k - 1) - 1) ∷ rest
unless_some out zero rest h = absurd (h refl)
unless_some out (suc k) rest h = let e : suc k - 1 ≡ k = omega arith in rw (e, previous_is)
