-- What code over rooms needs of a reached session: the next one is reached too, and every clause that a hint names stays below
-- the end of the numbers.
use mathlib.Core.Path.{◌≡◌, refl}
use mathlib.Core.Bool.{Bool, true, false}
use mathlib.Core.List.{List, [], ◌∷◌, ◌++◌}
use Prim.Native.Nat.{ℕ, zero, suc, ◌+◌, ◌*◌, ◌<◌, ◌≤◌}
use native.Mathlib.Omega.{arith}
use native.Mathlib.Nat.{mul-le-mul_left}
use lib.IntN.{pos}
use lib.ListN.{length, get_or}
use lib.Dec.{leb}
use borrow.Author.Tests.{ltb-true, lt-ltb, leb-true}
use Rattle.paper.specs.Sizes.{narrow, wish_variable, first_counter, counter_start, numbers_end}
use Rattle.paper.specs.declared.Width.{Width}
use Rattle.paper.specs.Clauses.{Clause, variable, every}
use Rattle.paper.specs.Counters.{tree_of, variables, clause_at}
use Rattle.paper.specs.Session.{Wish, Counter, Session, Hint, of_rule, of_wish, of_counter, of_derived, of_nothing, fresh, no_wish, no_counter, problem_literal, hint_named, hint_clause}
use Rattle.paper.specs.Steps.{Step, opening, rule, wish, derive, core, judge, accepted, answer, effect, next}
use Rattle.paper.specs.Runs.{Entry, Runs, Reached}
use Rattle.paper.proofs.Lists.{and_split, every-mono, every-snoc, every-at, all_mono}
use Rattle.paper.proofs.Tables.{next_accepted, next_refused}
use Rattle.paper.proofs.Trees.{Fits, variables_room}
use Rattle.paper.proofs.Truths.{Ordered, Below, tree_below}
use Rattle.paper.proofs.Bounds.{below, clause_below}
use Rattle.paper.proofs.Invariant.{there}
use Rattle.paper.proofs.Costs.{reached_sound}
use Rattle.paper.proofs.Reorder.{joined}

pub fresh_reached : Reached fresh
fresh_reached = ([], refl)

pub next_reached : (s : Session) (m : Step) → Reached s → Reached (next s m)
next_reached s m r = go (accepted s m) refl
  where
    go : (b : Bool) → accepted s m ≡ b → Reached (next s m)
    go false u = rw (next_refused s m u) r
    go true u =
        let last : Entry = record { step = m; answer = answer s m } in
        (r.0 ++ (last ∷ []), joined fresh r.0 (last ∷ []) s (next s m) r.1 (u, refl, refl))

-- ── The width of the opening stays ──

effect_width : (s : Session) (m : Step) → s.sheet.width ≡ narrow → (effect s m).sheet.width ≡ narrow
effect_width s (opening n) e = refl
effect_width s (rule c) e = e
effect_width s (wish w c) e = e
effect_width s (derive c hints) e = e
effect_width s (core d) e = e
effect_width s (judge a) e = e

run_width : (s : Session) (es : List Entry) (s' : Session) → s.sheet.width ≡ narrow → Runs s es s' → s'.sheet.width ≡ narrow
run_width s [] s' e r = rw (← r) e
run_width s (x ∷ es) s' e r = run_width (next s x.step) es s' (rw (next_accepted s x.step r.0) (effect_width s x.step e)) r.2

pub reached_narrow : (s : Session) → Reached s → s.sheet.width ≡ narrow
reached_narrow s r = run_width fresh r.0 s refl r.1

-- ── Every clause that a hint names ──

problem_below : (n m : ℕ) → n < m → (c : Clause) → every (problem_literal n) c ≡ true → every (below m) c ≡ true
problem_below n m h c e =
    every-mono (problem_literal n) (below m) c
    (λ l k. let j = leb-true (variable l) n (and_split (leb 1 (variable l)) _ k).1 in lt-ltb (variable l) m (omega arith)) e

-- A counter's inputs and variables, where the counter stands.
ordered_room : (u : Width) → Fits u → (xs : List Counter) (start : ℕ) → Ordered u start xs → (c : ℕ) → c < length xs
    → Below (start + u.stride * length xs) (tree_of (get_or xs c no_counter).inputs)
    × (start + u.stride * c + variables (tree_of (get_or xs c no_counter).inputs) ≤ start + u.stride * length xs)
ordered_room u ft [] start o c h = absurd (omega arith)
ordered_room u ft (x ∷ xs) start o zero h =
    let r = variables_room u ft x.inputs o.1 in (
      tree_below (start + u.stride * suc (length xs)) x.inputs (omega arith)
          (all_mono (λ v. v < start) (λ v. v < start + u.stride * suc (length xs)) (λ v k. omega arith) x.inputs o.3),
      omega arith,
    )
ordered_room u ft (x ∷ xs) start o (suc c) h =
    let r = ordered_room u ft xs (start + u.stride) o.4 c (omega arith) in
    (rw (shift start (length xs)) at r.0, let k = r.1 in omega arith)
  where
    shift : (b n : ℕ) → b + u.stride + u.stride * n ≡ b + u.stride * suc n
    shift b n = omega arith

below_mono : (n m : ℕ) → n ≤ m → (c : Clause) → every (below n) c ≡ true → every (below m) c ≡ true
below_mono n m h c e = every-mono (below n) (below m) c (λ l k. let j = ltb-true (variable l) n k in lt-ltb (variable l) m (omega arith)) e

pub hint_below : (s : Session) → Reached s → (h : Hint) → hint_named s.sheet s.work h ≡ true
    → every (below (numbers_end s.sheet.width)) (hint_clause s.sheet s.work h) ≡ true
hint_below s r (of_rule i) e =
    let k = reached_sound s r in
    let small = k.small in
    problem_below s.sheet.variables (numbers_end s.sheet.width) (omega arith) (get_or s.sheet.rules i [])
    (every-at (every (problem_literal s.sheet.variables)) [] s.sheet.rules k.rule_form i (ltb-true _ _ e))
hint_below s r (of_wish j) e =
    let k = reached_sound s r in
    let small = k.small in
    let few = k.few in
    let h = ltb-true j (length s.sheet.wishes) e in
    every-snoc (below (numbers_end s.sheet.width)) (get_or s.sheet.wishes j no_wish).literals (pos (wish_variable j))
    (problem_below s.sheet.variables (numbers_end s.sheet.width) (omega arith) (get_or s.sheet.wishes j no_wish).literals
    (every-at (λ (x : Wish). every (problem_literal s.sheet.variables) x.literals) no_wish s.sheet.wishes k.wish_form j h))
    (lt-ltb (wish_variable j) (numbers_end s.sheet.width) (omega arith))
hint_below s r (of_counter c i) e =
    let k = reached_sound s r in
    let u = s.sheet.width in
    let cs = s.work.counters in
    let h = there cs c i (ltb-true _ _ e) in
    let p = ordered_room u k.fits cs first_counter k.ordered c h in
    let m = mul-le-mul_left u.stride k.few_counters in
    below_mono (counter_start u (length cs)) (numbers_end u) (omega arith) (clause_at (tree_of (get_or cs c no_counter).inputs) (counter_start u c) i)
    (clause_below (counter_start u (length cs)) (omega arith) (tree_of (get_or cs c no_counter).inputs) (counter_start u c) i p.0 p.1)
hint_below s r (of_derived d) e =
    let k = reached_sound s r in
    every-at (every (below (numbers_end s.sheet.width))) [] s.work.derived k.derived_below d (ltb-true _ _ e)
hint_below s r of_nothing e = refl
