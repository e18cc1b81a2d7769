-- How a step's table of refusals decides: the answer and the session after it.
use mathlib.Core.Path.{◌≡◌, refl, ◌∙◌, ap}
use mathlib.Core.Bool.{Bool, true, false, not, and-false}
use mathlib.Core.List.{List, [], ◌∷◌, ◌++◌}
use Prim.Native.Nat.{ℕ, ◌≤◌}
use native.Mathlib.Omega.{arith}
use lib.Dec.{eqb}
use Rattle.paper.specs.Clauses.{pick}
use Rattle.paper.specs.Session.{Session, tally_of}
use Rattle.paper.specs.Truth.{cost}
use Rattle.paper.specs.Answers.{Refusal, numbers, clear, answer_or}
use Rattle.paper.specs.Steps.{Step, opening, rule, wish, derive, core, judge, refusals, reply, effect, accepted, answer, next, outcome}
use Rattle.paper.specs.Promises.{Decided, LowestFirst}
use Rattle.paper.specs.declared.Answer.{Answer}
use Rattle.paper.specs.declared.Answer.TheVariants.{Best, Counted}
use Rattle.paper.proofs.Lists.{passed}

pub answer_clear : (rs : List Refusal) (other : Answer) → clear rs ≡ true → answer_or rs other ≡ other
answer_clear [] other e = refl
answer_clear (r ∷ rs) other e = let p = passed r.applies (clear rs) e in rw p.0 (answer_clear rs other p.1)

answer_first : (above below : List Refusal) (r : Refusal) (other : Answer) → clear above ≡ true → r.applies ≡ true
    → answer_or (above ++ (r ∷ below)) other ≡ r.answer
answer_first [] below r other e f = rw f
answer_first (x ∷ above) below r other e f =
    let p = passed x.applies (clear above) e in
    rw p.0 (answer_first above below r other p.1 f)

pub not_clear : (above below : List Refusal) (r : Refusal) → r.applies ≡ true → clear (above ++ (r ∷ below)) ≡ false
not_clear [] below r f = rw f
not_clear (x ∷ above) below r f = rw (not_clear above below r f) (and-false (not x.applies))

pub answer_accepted : (s : Session) (m : Step) → accepted s m ≡ true → answer s m ≡ reply s m
answer_accepted s m e = answer_clear (refusals s m) (reply s m) e

pub next_accepted : (s : Session) (m : Step) → accepted s m ≡ true → next s m ≡ effect s m
next_accepted s m e = ap (λ b. pick b (effect s m) s) e

pub next_refused : (s : Session) (m : Step) → accepted s m ≡ false → next s m ≡ s
next_refused s m e = ap (λ b. pick b (effect s m) s) e

-- ── What a step hands back ──

pub outcome_accepted : (s : Session) (m : Step) → accepted s m ≡ true
    → outcome s m ≡ record { tally = tally_of (effect s m); answer = reply s m }
outcome_accepted s m e = rw (next_accepted s m e, answer_accepted s m e)

pub outcome_refused : (s : Session) (m : Step) (a : Answer) → accepted s m ≡ false → answer s m ≡ a
    → outcome s m ≡ record { tally = tally_of s; answer = a }
outcome_refused s m a e f = rw (next_refused s m e, f)

pub decided : Decided
decided s m = (
  λ e. (answer_accepted s m e, next_accepted s m e),
  λ above below r e f g.
      let no : accepted s m ≡ false = ap clear e ∙ not_clear above below r g in
      (no, ap (λ rs. answer_or rs (reply s m)) e ∙ answer_first above below r (reply s m) f g, next_refused s m no),
)

judged_number : (k bound : ℕ) (b : Bool) → (numbers (pick b (Best k bound) (Counted k bound))).number ≤ 1
judged_number k bound true = omega arith
judged_number k bound false = omega arith

pub lowest_first : LowestFirst
lowest_first s (opening n) = (refl, refl, omega arith)
lowest_first s (rule c) = (refl, refl, omega arith)
lowest_first s (wish w c) = (refl, refl, omega arith)
lowest_first s (derive c hints) = (refl, refl, omega arith)
lowest_first s (core d) = (refl, refl, omega arith)
lowest_first s (judge a) = (refl, refl, judged_number _ _ (eqb (cost s.sheet a) s.work.bound))
