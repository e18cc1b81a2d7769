-- What a judging answers, for each way that it can go. `t` is the tally, `a` the arrangement.
use mathlib.Core.Path.{◌≡◌, refl, sym, ap}
use mathlib.Core.Bool.{Bool, true, false, ◌&&◌}
use mathlib.Core.List.{List, [], ◌∷◌}
use Prim.Native.Nat.compare
use Prim.Native.Nat.{ℕ, suc, ◌<◌}
use native.Mathlib.Omega.{arith}
use lib.Dec.{leb}
use lib.IntN.{ℤ}
use lib.ListN.{length}
use borrow.Author.Tests.{lt-leb}
use Rattle.std.specs.Prelude.{Some, None}
use Rattle.std.proofs.lemmas.Option.{none-some}
use Rattle.paper.specs.Sizes.{rule_room}
use Rattle.paper.specs.Clauses.{Clause, Truth, clause_true, every, pick}
use Rattle.paper.specs.declared.Tally.{Tally}
use Rattle.paper.specs.declared.Answer.TheVariants.{Broken}
use Rattle.paper.specs.Session.{Session, tally_of}
use Rattle.paper.specs.Truth.{cost}
use Rattle.paper.specs.Steps.{judge, judged, met_before, answer}
use Rattle.clauses.specs.Family.{Holds}
use Rattle.rooms.specs.Held.{HeldRules}
use Rattle.rooms.proofs.Outcomes.{begun}
use Rattle.judge.specs.Broken.{lowest_broken}

-- All rules are met where as many are met before the first that is broken.
pub all_met : (a : Truth) (rules : List Clause) → every (clause_true a) rules ≡ leb (length rules) (met_before a rules)
all_met a [] = refl
all_met a (c ∷ cs) = go (clause_true a c) (all_met a cs)
  where
    go : (b : Bool) → every (clause_true a) cs ≡ leb (length cs) (met_before a cs)
        → (b && every (clause_true a) cs) ≡ leb (suc (length cs)) (pick b (suc (met_before a cs)) 0)
    go true e = rw compare.suc-suc e
    go false e = sym (lt-leb (suc (length cs)) 0 (omega arith))

module _ (s : Session) (t : Tally) (eq : t ≡ tally_of s) where
  pub counted : {literals : List ℤ} {ends : List ℕ} → HeldRules literals ends s
      → Holds rule_room.literals rule_room.clauses literals ends t.rules s.sheet.rules
  counted H = rw eq H

  module _ (a : Truth) (begins : t.variables ≡ 0 → ⊥) where
    pub costs : None ≡ lowest_broken a s.sheet.rules → judged (cost s.sheet a) t.bound ≡ answer s (judge a)
    costs e = go (every (clause_true a) s.sheet.rules) refl e
      where
        go : (b : Bool) → every (clause_true a) s.sheet.rules ≡ b → None ≡ pick b None (Some (met_before a s.sheet.rules))
            → judged (cost s.sheet a) t.bound ≡ answer s (judge a)
        go true all q = rw (begun s t eq begins, all, eq)
        go false all q = absurd (none-some _ q)

  -- `met` is how many rules are met before the first that is broken.
  module _ (a : Truth) (begins : t.variables ≡ 0 → ⊥) (met : ℕ) (met-is : met ≡ met_before a s.sheet.rules) where
    pub broken : met < t.rules → Broken met ≡ answer s (judge a)
    broken h =
        let few = ap (λ (x : Tally). x.rules) eq in
        rw (begun s t eq begins, all_met a s.sheet.rules, ← met-is, lt-leb (length s.sheet.rules) met (omega arith))
