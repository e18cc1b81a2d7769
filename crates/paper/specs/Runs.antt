-- Runs of steps, with their answers.
use Rattle.std.specs.Prelude.{◌≡◌, Bool, true, ◌||◌, List, [], ◌∷◌, ℕ, suc, eqb}
use Rattle.paper.specs.Clauses.{pick}
use Rattle.paper.specs.Session.{Session, fresh}
use Rattle.paper.specs.Answers.{numbers}
use Rattle.paper.specs.Steps.{Step, opening, rule, wish, derive, core, judge, accepted, answer, next}
use Rattle.paper.specs.declared.Answer.{Answer}
use Rattle.paper.specs.declared.Numbers.{Numbers}

-- A step, and the answer that it got.
pub record Entry : Type 0 where
  pub step : Step
  pub answer : Answer

-- From s, the entries' steps are all accepted, each with its entry's answer, and the session ends as s'.
abbrev pub Runs : Session → List Entry → Session → Type 0
Runs s [] s' = s ≡ s'
Runs s (e ∷ es) s' = (accepted s e.step ≡ true) × (answer s e.step ≡ e.answer) × Runs (next s e.step) es s'

-- Only accepted steps have written the session since it was fresh.
abbrev pub Reached : Session → Type 0
Reached s = (es : List Entry) × Runs fresh es s

-- A record's kind.
abbrev pub kind_of : Step → ℕ
kind_of (opening n) = 1
kind_of (rule c) = 2
kind_of (wish w c) = 3
kind_of (derive c hints) = 4
kind_of (core d) = 5
kind_of (judge a) = 6

abbrev pub is_rule : Step → Bool
is_rule m = eqb (kind_of m) 2

abbrev pub is_wish : Step → Bool
is_wish m = eqb (kind_of m) 3

-- A derived clause or a core.
abbrev pub is_work : Step → Bool
is_work m = eqb (kind_of m) 4 || eqb (kind_of m) 5

-- The entries of one sort, in their order.
abbrev pub select : (Step → Bool) → List Entry → List Entry
select p [] = []
select p (e ∷ es) = pick (p e.step) (e ∷ select p es) (select p es)

-- ── What the runner prints ──

pub record Line : Type 0 where
  pub place : ℕ
  pub kind : ℕ
  pub given : Numbers

abbrev pub line_of : ℕ → Step → Answer → Line
line_of place m r = record { place = place; kind = kind_of m; given = numbers r }

abbrev pub lines_from : ℕ → Session → List Step → List Line
lines_from place s [] = []
lines_from place s (m ∷ ms) = line_of place m (answer s m) ∷ lines_from (suc place) (next s m) ms
