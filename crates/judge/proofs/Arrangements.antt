-- What is true of an arrangement, as a clause and the rules are read.
use mathlib.Core.Path.{◌≡◌, refl, sym, ap, ◌∙◌}
use mathlib.Core.Bool.{Bool, true, false, ◌||◌}
use mathlib.Core.List.{List, [], ◌∷◌}
use Prim.Native.Nat.{ℕ, suc, ◌+◌, ◌<◌}
use native.Mathlib.Numerals.{add-one}
use native.Mathlib.Omega.{arith}
use lib.ListN.{length, drop, get_or}
use lib.Seq.{drop-cons, drop-length}
use Rattle.std.specs.Prelude.{Some, None}
use Rattle.std.specs.List.{list_any}
use Rattle.paper.specs.Clauses.{Clause, Truth, literal_true, clause_true, every, pick}
use Rattle.paper.specs.Steps.{met_before}
use Rattle.judge.specs.Broken.{lowest_broken}

-- The library's word for the truth of a clause.
pub any_true : (t : Truth) (c : Clause) → list_any (literal_true t) c ≡ clause_true t c
any_true t [] = refl
any_true t (l ∷ c) = ap (λ b. literal_true t l || b) (any_true t c)

-- A turn: what is known of the whole, by whether what was read is true.
pub rules_turn : (t : Truth) (rules : List Clause) (i : ℕ) (read : Bool) → i < length rules
    → read ≡ clause_true t (get_or rules i [])
    → i + met_before t (drop i rules) ≡ met_before t rules
    → i + pick read (suc (met_before t (drop (i + 1) rules))) 0 ≡ met_before t rules
rules_turn t rules i read h e whole = rw (e, ← whole, add-one, drop-cons rules i [])

module _ (t : Truth) (rules : List Clause) where
  -- The rules before i are met, so those from i on decide.
  abbrev pub Met : ℕ → Type 0
  Met i = (every (clause_true t) (drop i rules) ≡ every (clause_true t) rules) × (i + met_before t (drop i rules) ≡ met_before t rules)

  module _ (i : ℕ) (met : Met i) where
    pub none_broken : i ≡ length rules → None ≡ lowest_broken t rules
    none_broken e =
        let all : every (clause_true t) rules ≡ true = sym met.0 ∙ rw (e, drop-length rules) in
        rw all

    module _ (h : i < length rules) where
      rest : drop i rules ≡ get_or rules i [] ∷ drop (suc i) rules
      rest = drop-cons rules i [] h

      pub rule_broken : clause_true t (get_or rules i []) ≡ false → Some i ≡ lowest_broken t rules
      rule_broken e =
          let all : every (clause_true t) rules ≡ false = sym met.0 ∙ rw (rest, e) in
          let count : i ≡ met_before t rules = omega (arith, rw (rest, e) at met.1) in
          rw all (ap Some count)

      pub rule_met : clause_true t (get_or rules i []) ≡ true → Met (i + 1)
      rule_met e = (rw add-one (rw (rest, e) at met.0), rw add-one (omega (arith, rw (rest, e) at met.1)))
