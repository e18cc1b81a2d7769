-- What one word makes of the literals that are still to be read.
use mathlib.Core.Path.{◌≡◌, ap}
use mathlib.Core.Bool.{Bool, true, false, not, ◌&&◌}
use mathlib.Core.List.{List, [], ◌∷◌, ◌++◌}
use Prim.Native.Nat.{ℕ, ◌-◌}
use native.Mathlib.Omega.{arith}
use lib.Dec.{eqb}
use lib.IntN.{pos, negsuc}
use borrow.Author.Tests.{eq-eqb, ne_eqb}
use Rattle.paper.specs.Clauses.{Clause, pick}
use Rattle.paper.specs.Texts.{Word, value, minus, unsigned, decimal_up_to, literal_word, literal_of}
use Rattle.paper.proofs.Lists.{and_split}
use Rattle.literals.specs.Reading.{stop_at, literals_of}

clash : {A : Type 0} → ◌≡◌ {A = ℕ} 0 1 → A
clash e = absurd (omega arith)

module _ (end : ℕ) (c : Clause) (w : Word) (ws : List Word) where
  pub no_literal : literal_word w.bytes ≡ false → literals_of end c (w ∷ ws) ≡ stop_at 31 w c ws
  unfolding literals_of
  no_literal e = rw e

  pub zero_ends : literal_word w.bytes ≡ true → value (unsigned w.bytes) ≡ 0 → literals_of end c (w ∷ ws) ≡ stop_at 0 w c ws
  unfolding literals_of
  zero_ends e z = rw (e, eq-eqb (value (unsigned w.bytes)) 0 z)

  pub one_more : literal_word w.bytes ≡ true → (value (unsigned w.bytes) ≡ 0 → ⊥)
      → literals_of end c (w ∷ ws) ≡ literals_of end (c ++ (literal_of w.bytes ∷ [])) ws
  unfolding literals_of
  one_more e n = rw (e, ne_eqb (value (unsigned w.bytes)) 0 n)

-- A word that is a literal is 0 exactly where its size is.
is_zero : (m : Bool) (v : ℕ) → pick m (negsuc (v - 1)) (pos v) ≡ pos 0 → v ≡ 0
is_zero true v e = clash (cc)
is_zero false v e = cc

no_zero : (d m : Bool) (v : ℕ) → (d && not (m && eqb v 0)) ≡ true → (pick m (negsuc (v - 1)) (pos v) ≡ pos 0 → ⊥) → v ≡ 0 → ⊥
no_zero d true v e n z = clash (cc ((and_split d (not (eqb v 0)) e).1, eq-eqb v 0 z))
no_zero d false v e n z = n (ap pos z)

pub zero_word : (bytes : List ℕ) → literal_of bytes ≡ pos 0 → value (unsigned bytes) ≡ 0
zero_word bytes = is_zero (minus bytes) (value (unsigned bytes))

pub some_word : (bytes : List ℕ) → literal_word bytes ≡ true → (literal_of bytes ≡ pos 0 → ⊥) → value (unsigned bytes) ≡ 0 → ⊥
some_word bytes = no_zero (decimal_up_to 2147483647 (unsigned bytes)) (minus bytes) (value (unsigned bytes))
