-- The reading of hints is sound under any truth of the variables: what they show follows from them.
use mathlib.Core.Path.{◌≡◌, refl, sym, ◌∙◌, ap}
use mathlib.Core.Bool.{Bool, true, false, not, ◌||◌, or-false, true≢false, false≢true, not-not}
use mathlib.Core.List.{List, [], ◌∷◌}
use Prim.Native.Nat.{ℕ, suc, ◌<◌}
use native.Mathlib.Omega.{arith}
use lib.Dec.{eqb}
use lib.IntN.{ℤ, pos, negsuc}
use borrow.Author.Tests.{eqb-true}
use Rattle.paper.specs.Clauses.{Clause, Truth, literal_true, clause_true, every}
use Rattle.paper.specs.Derivation.{Value, unassigned, is, Assigned, assign, value_or, variable_value, opposite, literal_value, with_literal, read, ending, follow, misfit, assume, shows}
use Rattle.paper.specs.declared.Reading.{Reading}
use Rattle.paper.specs.declared.Reading.TheVariants.{AllFalse, Forces, AlreadyTrue, StillOpen}
use Rattle.paper.proofs.Lists.{and_split}

module _ (t : Truth) where
  -- The truth agrees with an assignment.
  abbrev Agrees : List Assigned → Type 0
  Agrees [] = Unit {0}
  Agrees (x ∷ xs) = (t x.variable ≡ x.value) × Agrees xs

  variable_agrees : (xs : List Assigned) (v : ℕ) (b : Bool) → Agrees xs → variable_value xs v ≡ is b → t v ≡ b
  variable_agrees [] v b a e = cc
  variable_agrees (x ∷ xs) v b a e = go (eqb v x.variable) refl e (variable_agrees xs v b a.1)
    where
      go : (y : Bool) → eqb v x.variable ≡ y → value_or y x.value (variable_value xs v) ≡ is b
          → (variable_value xs v ≡ is b → t v ≡ b) → t v ≡ b
      go true u w ih = let h : v ≡ x.variable = eqb-true _ _ u in let g : t x.variable ≡ x.value = a.0 in cc
      go false u w ih = ih w

  literal_agrees : (xs : List Assigned) (l : ℤ) (b : Bool) → Agrees xs → literal_value xs l ≡ is b → literal_true t l ≡ b
  literal_agrees xs (pos v) b a e = variable_agrees xs v b a e
  literal_agrees xs (negsuc v) b a e = go (variable_value xs (suc v)) refl e
    where
      go : (y : Value) → variable_value xs (suc v) ≡ y → opposite y ≡ is b → not (t (suc v)) ≡ b
      go unassigned u w = cc
      go (is d) u w = let g : t (suc v) ≡ d = variable_agrees xs (suc v) d a u in cc

  assign_agrees : (l : ℤ) (b : Bool) → literal_true t l ≡ b → t (assign l b).variable ≡ (assign l b).value
  assign_agrees (pos v) b e = e
  assign_agrees (negsuc v) b e = sym (not-not (t (suc v))) ∙ ap not e

  -- What a reading says of the clause's truth.
  abbrev Says : Reading → Bool → Type 0
  Says AllFalse b = b ≡ false
  Says (Forces l) b = b ≡ literal_true t l
  Says AlreadyTrue b = Unit {0}
  Says StillOpen b = Unit {0}

  literal_says : (l : ℤ) (y : Value) (r : Reading) (b : Bool) → ((d : Bool) → y ≡ is d → literal_true t l ≡ d) → Says r b
      → Says (with_literal l y r) (literal_true t l || b)
  literal_says l unassigned AllFalse b f h = rw h (or-false (literal_true t l))
  literal_says l unassigned (Forces k) b f h = tt
  literal_says l unassigned AlreadyTrue b f h = tt
  literal_says l unassigned StillOpen b f h = tt
  literal_says l (is true) r b f h = tt
  literal_says l (is false) r b f h = rw (f false refl) h

  read_says : (xs : List Assigned) (c : Clause) → Agrees xs → Says (read xs c) (clause_true t c)
  read_says xs [] a = refl
  read_says xs (l ∷ c) a =
      literal_says l (literal_value xs l) (read xs c) (clause_true t c) (λ d e. literal_agrees xs l d a e) (read_says xs c a)

  -- True clauses never lead to an ending under an assignment that the truth agrees with.
  never_ends : (xs : List Assigned) (place : ℕ) (hints : List Clause) → Agrees xs → every (clause_true t) hints ≡ true → 0 < place
      → misfit xs place hints ≡ 0 → ⊥
  never_ends xs place [] a h k e = omega arith
  never_ends xs place (c ∷ cs) a h k e =
      let s = and_split (clause_true t c) (every (clause_true t) cs) h in
      go (read xs c) e (read_says xs c a) s.0 (λ l g. never_ends (assign l true ∷ xs) (suc place) cs (g, a) s.1 (omega arith))
    where
      go : (r : Reading) → follow r place (ending place cs) (λ l. misfit (assign l true ∷ xs) (suc place) cs) ≡ 0
          → Says r (clause_true t c) → clause_true t c ≡ true
          → ((l : ℤ) → t (assign l true).variable ≡ (assign l true).value → misfit (assign l true ∷ xs) (suc place) cs ≡ 0 → ⊥) → ⊥
      go AllFalse w y ct ih = false≢true (sym y ∙ ct)
      go (Forces l) w y ct ih = ih l (assign_agrees l true (sym y ∙ ct)) w
      go AlreadyTrue w y ct ih = omega arith
      go StillOpen w y ct ih = omega arith

  assume_agrees : (c : Clause) → clause_true t c ≡ false → Agrees (assume c)
  assume_agrees [] e = tt
  assume_agrees (l ∷ c) e = go (literal_true t l) refl e (assume_agrees c)
    where
      go : (x : Bool) → literal_true t l ≡ x → (x || clause_true t c) ≡ false → (clause_true t c ≡ false → Agrees (assume c))
          → Agrees (assume (l ∷ c))
      go true u w ih = absurd (true≢false w)
      go false u w ih = (assign_agrees l false u, ih w)

  pub shown_true : (c : Clause) (hints : List Clause) → every (clause_true t) hints ≡ true → shows c hints ≡ true → clause_true t c ≡ true
  shown_true c hints h e = go (clause_true t c) refl
    where
      go : (x : Bool) → clause_true t c ≡ x → clause_true t c ≡ true
      go true u = u
      go false u = absurd (never_ends (assume c) 1 hints (assume_agrees c u) h (omega arith) (eqb-true _ _ e))
