-- The front of some bytes up to the first that stops it: a word stops at a blank, and a line at an LF.
use mathlib.Core.Path.{◌≡◌, refl, sym, ap, ◌∙◌}
use mathlib.Core.Bool.{Bool, true, false, not}
use mathlib.Core.List.{List, [], ◌∷◌}
use Prim.Native.Nat.{ℕ, ◌+◌, ◌≤◌}
use native.Mathlib.Omega.{arith}
use lib.Dec.{eqb, ltb}
use lib.ListN.{length, take, length-take}
use borrow.Author.Tests.{ltb-false}
use Rattle.std.specs.Prelude.{None, Some, unwrap_or}
use Rattle.std.specs.List.{position, position_or_len}
use Rattle.std.proofs.Math.Bool.{cond}
use Rattle.std.proofs.lemmas.List.Recursion.{is_position_or_len}
use Rattle.std.proofs.lemmas.List.Sums.{prefix_len-le-length}
use Rattle.paper.specs.Clauses.{pick}
use Rattle.paper.specs.Texts.{blank, word, line}

pub record Front (stop : ℕ → Bool) (front : List ℕ → List ℕ) : Type 0 where
  pub nil : front [] ≡ []
  pub cons : (b : ℕ) (bytes : List ℕ) → front (b ∷ bytes) ≡ pick (stop b) [] (b ∷ front bytes)

pub word_front : Front blank word
word_front = record { nil = refl; cons = λ b bytes. refl }

pub line_front : Front (λ b. eqb b 10) line
line_front = record { nil = refl; cons = λ b bytes. refl }

module _ {stop : ℕ → Bool} {front : List ℕ → List ℕ} (is : Front stop front) where
  pub front_taken : (bytes : List ℕ) → take (length (front bytes)) bytes ≡ front bytes
  front_taken [] = rw is.nil
  front_taken (b ∷ bytes) = rw (is.cons b bytes) (go (stop b) (front_taken bytes))
    where
      go : (stops : Bool) → take (length (front bytes)) bytes ≡ front bytes
          → take (length (pick stops [] (b ∷ front bytes))) (b ∷ bytes) ≡ pick stops [] (b ∷ front bytes)
      go true taken = refl
      go false taken = rw taken

  pub front_short : (bytes : List ℕ) → length (front bytes) ≤ length bytes
  front_short bytes = let taken = ap length (front_taken bytes) in omega (arith, simp length-take at taken)

-- ── The first place whose byte passes a test ──

-- Where a search answers it, or the length where there is none.
pub or_length : (p : ℕ → Bool) (bytes : List ℕ) → unwrap_or (position p bytes) (length bytes) ≡ position_or_len p bytes
or_length p bytes = go (ltb (position_or_len p bytes) (length bytes)) refl
  where
    go : (b : Bool) → ltb (position_or_len p bytes) (length bytes) ≡ b
        → unwrap_or (cond b (Some (position_or_len p bytes)) None) (length bytes) ≡ position_or_len p bytes
    go true e = refl
    go false e = omega (arith, ltb-false _ _ e, prefix_len-le-length (λ b. not (p b)) bytes)

pub front_ends : {stop : ℕ → Bool} {front : List ℕ → List ℕ} → Front stop front → (bytes : List ℕ)
    → position_or_len stop bytes ≡ length (front bytes)
front_ends {stop} {front} is bytes =
    sym (is_position_or_len (λ bytes. length (front bytes)) stop (ap length is.nil) step bytes)
  where
    picked : (stops : Bool) (b : ℕ) (bytes : List ℕ) → length (pick stops [] (b ∷ bytes)) ≡ cond stops 0 (1 + length bytes)
    picked true b bytes = refl
    picked false b bytes = omega arith

    step : (b : ℕ) (bytes : List ℕ) → length (front (b ∷ bytes)) ≡ cond (stop b) 0 (1 + length (front bytes))
    step b bytes = ap length (is.cons b bytes) ∙ picked (stop b) b (front bytes)
