-- What a step hands back and leaves, for each way that it can go. `t` is the tally at entry.
use mathlib.Core.Path.{◌≡◌, sym, ◌∙◌, ap}
use mathlib.Core.Bool.{Bool, true, false, not}
use mathlib.Core.List.{List, [], ◌∷◌, ◌++◌}
use Prim.Native.Nat.{ℕ}
use native.Mathlib.Omega.{arith}
use borrow.Author.Tests.{le-ltb, lt-ltb}
use Rattle.paper.specs.declared.Tally.{Tally}
use Rattle.paper.specs.declared.Answer.TheVariants.{Refused}
use Rattle.paper.specs.Session.{Session, tally_of}
use Rattle.paper.specs.Answers.{Refusal, refuse, clear, answer_or}
use Rattle.paper.specs.Steps.{Step, opened, refusals, reply, effect, accepted, answer, next, outcome}
use Rattle.paper.proofs.Tables.{outcome_accepted, outcome_refused, next_accepted, next_refused}
use Rattle.clauses.specs.Lowest.{lowest, Plain}
use Rattle.clauses.proofs.Lowest.{none_applies, lowest_answers, clear_passes}

-- A refusal hands back the tally and leaves the session.
pub record Refuses (s : Session) (t : Tally) (m : Step) (number : ℕ) : Type 0 where
  pub out : record { tally = t; answer = Refused number } ≡ outcome s m
  pub same : next s m ≡ s

-- An acceptance has the step's own answer and effect.
pub record Accepts (s : Session) (m : Step) : Type 0 where
  pub out : record { tally = tally_of (effect s m); answer = reply s m } ≡ outcome s m
  pub effects : next s m ≡ effect s m

pub accepts : (s : Session) (m : Step) → accepted s m ≡ true → Accepts s m
accepts s m e = record { out = sym (outcome_accepted s m e); effects = next_accepted s m e }

module _ (s : Session) (t : Tally) (eq : t ≡ tally_of s) where
  pub refuses : (m : Step) (number : ℕ) → answer s m ≡ Refused number → accepted s m ≡ false → Refuses s t m number
  refuses m number e f = record { out = rw eq (sym (outcome_refused s m (Refused number) f e)); same = next_refused s m f }

  pub closed : t.variables ≡ 0 → opened s ≡ false
  closed e = le-ltb 0 s.sheet.variables (let q = ap (λ (x : Tally). x.variables) eq in omega arith)

  pub begun : (t.variables ≡ 0 → ⊥) → opened s ≡ true
  begun e = lt-ltb 0 s.sheet.variables (let q = ap (λ (x : Tally). x.variables) eq in omega arith)

  -- ── A step whose table goes on after 12 with a part that is decided by one number, and ends with 23 ──

  module _ (m : Step) (part : List Refusal) (full : Bool)
      (shape : refusals s m ≡ refuse 12 (not (opened s)) ∷ (part ++ (refuse 23 full ∷ []))) (plain : Plain part) where
    pub closed_refuses : t.variables ≡ 0 → Refuses s t m 12
    closed_refuses e = let o = closed e in refuses m 12 (rw (shape, o)) (rw (shape, o))

    -- `k` is what the code found.
    module _ (begins : t.variables ≡ 0 → ⊥) (k : ℕ) (e : k ≡ lowest part) where
      pub part_refuses : (k ≡ 0 → ⊥) → Refuses s t m k
      part_refuses h =
          let o = begun begins in
          let a = lowest_answers part (refuse 23 full ∷ []) (reply s m) plain (rw (← e) (omega arith)) in
          refuses m k (rw (shape, o, e) a.0) (rw (shape, o) a.1)

      module _ (z : k ≡ 0) where
        passes : (answer s m ≡ answer_or (refuse 23 full ∷ []) (reply s m)) × (accepted s m ≡ clear (refuse 23 full ∷ []))
        passes =
            let o = begun begins in
            let a = clear_passes part (refuse 23 full ∷ []) (reply s m) (none_applies part plain (sym e ∙ z)) in
            (rw (shape, o) a.0, rw (shape, o) a.1)

        pub full_refuses : full ≡ true → Refuses s t m 23
        full_refuses f = refuses m 23 (passes.0 ∙ rw f) (passes.1 ∙ rw f)

        pub room_accepts : full ≡ false → Accepts s m
        room_accepts f = accepts s m (passes.1 ∙ rw f)
