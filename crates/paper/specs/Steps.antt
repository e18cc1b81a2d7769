-- "The steps": for each the refusals, lowest first, the answer and the session after it.
use Rattle.std.specs.Prelude.{Bool, not, ◌||◌, ◌&&◌, List, [], ◌∷◌, ◌++◌, map, ℕ, suc, ◌+◌, min, ℤ, eqb, leb, ltb, length, get_or}
use Rattle.paper.specs.Sizes.{Room, most_variables, most_weight, most_hints, rule_room, wish_room, derived_room, wish_variable}
use Rattle.paper.specs.declared.Width.{Width}
use Rattle.paper.specs.Clauses.{Clause, Truth, variable, positive, clause_true, every, variable_twice, literals_in, pick}
use Rattle.paper.specs.Session.{Wish, Counter, Sheet, Work, Session, Hint, blank, no_work, tally_of, spread, remaining, problem_literal, named_literal, hint_named, hint_clause}
use Rattle.paper.specs.Truth.{meets, cost}
use Rattle.paper.specs.Derivation.{shows}
use Rattle.paper.specs.Answers.{Refusal, refuse, clear, answer_or}
use Rattle.paper.specs.declared.Answer.{Answer}
use Rattle.paper.specs.declared.Outcome.{Outcome}
use Rattle.paper.specs.declared.Answer.TheVariants.{Opened, Rule, Wish as WishAdded, Derived, Core, Best, Counted, Broken}

pub data Step : Type 0 where
  opening : ℕ → Step
  rule : Clause → Step
  wish : ℕ → Clause → Step
  derive : Clause → List Hint → Step
  core : ℕ → Step
  judge : Truth → Step

abbrev pub opened : Session → Bool
opened s = ltb 0 s.sheet.variables

-- 16, 17 and 18, for a clause whose literals have to pass a test.
abbrev pub admission : Width → (ℤ → Bool) → Clause → List Refusal
admission u allowed c =
    refuse 16 (ltb u.literals (length c)) ∷ refuse 17 (not (every allowed c)) ∷ refuse 18 (variable_twice c) ∷ []

-- 23, for a clause more in a family.
abbrev pub full : Room → List Clause → Clause → Bool
full room family c = leb room.clauses (length family) || ltb room.literals (literals_in family + length c)

-- ── Derived clauses as cores ──

-- A member is positive, with weight left.
abbrev pub member : Sheet → Work → ℤ → Bool
member S W l = positive l && ltb 0 (remaining S W (variable l))

abbrev pub core_form : Sheet → Work → Clause → Bool
core_form S W c = ltb 0 (length c) && every (member S W) c

-- The least of f over a list; 0 for none.
abbrev pub least_from : (ℕ → ℕ) → ℕ → List ℕ → ℕ
least_from f x [] = f x
least_from f x (y ∷ ys) = min (f x) (least_from f y ys)

abbrev pub least : (ℕ → ℕ) → List ℕ → ℕ
least f [] = 0
least f (x ∷ xs) = least_from f x xs

abbrev pub members : Work → ℕ → List ℕ
members W d = map variable (get_or W.derived d [])

abbrev pub core_weight : Sheet → Work → ℕ → ℕ
core_weight S W d = least (remaining S W) (members W d)

-- For two or more members a counter over them.
abbrev pub with_counter_over : List ℕ → ℕ → List Counter → List Counter
with_counter_over [] w counters = counters
with_counter_over (x ∷ []) w counters = counters
with_counter_over (x ∷ (y ∷ ys)) w counters = counters ++ (record { inputs = x ∷ (y ∷ ys); weight = w } ∷ [])

-- ── Judging ──

-- How many rules the arrangement meets before the first that it breaks.
abbrev pub met_before : Truth → List Clause → ℕ
met_before a [] = 0
met_before a (c ∷ cs) = pick (clause_true a c) (suc (met_before a cs)) 0

-- Equal means best, greater means counted.
abbrev pub judged : ℕ → ℕ → Answer
judged k bound = pick (eqb k bound) (Best k bound) (Counted k bound)

-- ── Each step: what refuses it ──

abbrev pub refusals : Session → Step → List Refusal
refusals s (opening n) = refuse 12 (opened s) ∷ refuse 14 (not (leb 1 n && leb n most_variables)) ∷ []
refusals s (rule c) =
    refuse 12 (not (opened s))
    ∷ (admission s.sheet.width (problem_literal s.sheet.variables) c
    ++ (refuse 23 (full rule_room s.sheet.rules c) ∷ []))
refusals s (wish w c) =
    refuse 12 (not (opened s))
    ∷ (refuse 15 (not (leb 1 w && leb w most_weight))
    ∷ (admission s.sheet.width (problem_literal s.sheet.variables) c
    ++ (refuse 23 (full wish_room (map (λ (x : Wish). x.literals) s.sheet.wishes) c) ∷ [])))
refusals s (derive c hints) =
    refuse 12 (not (opened s))
    ∷ (admission s.sheet.width (named_literal s.sheet s.work) c
    ++ (refuse 19 (ltb most_hints (length hints) || not (every (hint_named s.sheet s.work) hints))
    ∷ refuse 20 (not (shows c (map (hint_clause s.sheet s.work) hints)))
    ∷ refuse 23 (full derived_room s.work.derived c)
    ∷ []))
refusals s (core d) =
    refuse 12 (not (opened s))
    ∷ refuse 21 (leb (length s.work.derived) d)
    ∷ refuse 22 (not (core_form s.sheet s.work (get_or s.work.derived d [])))
    ∷ refuse 23 (ltb 1 (length (members s.work d)) && leb s.sheet.width.counters (length s.work.counters))
    ∷ []
refusals s (judge a) =
    refuse 12 (not (opened s))
    ∷ record { applies = not (meets s.sheet a); answer = Broken (met_before a s.sheet.rules) }
    ∷ []

-- ── Each step: what it answers and does where nothing refuses it ──

abbrev pub reply : Session → Step → Answer
reply s (opening n) = Opened n
reply s (rule c) = Rule (length s.sheet.rules)
reply s (wish w c) = WishAdded (length s.sheet.wishes) (wish_variable (length s.sheet.wishes))
reply s (derive c hints) = Derived (length s.work.derived) (length c)
reply s (core d) = Core (s.work.bound + core_weight s.sheet s.work d) (core_weight s.sheet s.work d)
reply s (judge a) = judged (cost s.sheet a) s.work.bound

abbrev pub add_rule : Sheet → Clause → Sheet
add_rule S c = record { width = S.width; variables = S.variables; rules = S.rules ++ (c ∷ []); wishes = S.wishes }

abbrev pub add_wish : Sheet → ℕ → Clause → Sheet
add_wish S w c =
    record {
      width = S.width;
      variables = S.variables;
      rules = S.rules;
      wishes = S.wishes ++ (record { literals = c; weight = w } ∷ []);
    }

abbrev pub add_derived : Work → Clause → Work
add_derived W c = record { derived = W.derived ++ (c ∷ []); counters = W.counters; used = W.used; bound = W.bound }

-- Each member loses w, the bound gains w, and root outputs 2 to m of the new counter get w.
abbrev pub relax : Work → List ℕ → ℕ → Work
relax W xs w =
    record {
      derived = W.derived;
      counters = with_counter_over xs w W.counters;
      used = λ v. W.used v + spread w xs v;
      bound = W.bound + w;
    }

abbrev pub effect : Session → Step → Session
effect s (opening n) = record { sheet = blank n; work = no_work }
effect s (rule c) = record { sheet = add_rule s.sheet c; work = s.work }
effect s (wish w c) = record { sheet = add_wish s.sheet w c; work = s.work }
effect s (derive c hints) = record { sheet = s.sheet; work = add_derived s.work c }
effect s (core d) = record { sheet = s.sheet; work = relax s.work (members s.work d) (core_weight s.sheet s.work d) }
effect s (judge a) = s

-- ── Each step, whole ──

abbrev pub accepted : Session → Step → Bool
accepted s m = clear (refusals s m)

abbrev pub answer : Session → Step → Answer
answer s m = answer_or (refusals s m) (reply s m)

-- After a refusal the session is unchanged.
abbrev pub next : Session → Step → Session
next s m = pick (accepted s m) (effect s m) s

-- What a step hands back.
abbrev pub outcome : Session → Step → Outcome
outcome s m = record { tally = tally_of (next s m); answer = answer s m }
