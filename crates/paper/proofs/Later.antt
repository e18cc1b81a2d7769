-- Nothing is ever removed or renumbered: what a sheet and its work come to later, and that what was named stays as it was.
use mathlib.Core.Path.{◌≡◌, refl, sym, ◌∙◌, ap}
use mathlib.Core.Bool.{Bool, true, false, ◌&&◌, true≢false, false≢true}
use mathlib.Core.List.{List, [], ◌∷◌, ◌++◌, map, append_assoc, append-nil}
use Prim.Native.Nat.{ℕ, ◌+◌, ◌-◌, ◌<◌, ◌≤◌}
use native.Mathlib.Omega.{arith}
use lib.Dec.{leb, ltb}
use lib.IntN.{ℤ}
use lib.ListN.{length, get_or, length-append, get_or-append}
use borrow.Author.Tests.{ltb-true, ltb-false, lt-ltb, le-ltb, leb-true, leb-false}
use Rattle.paper.specs.Sizes.{most_variables, first_wish, wish_variable, first_counter}
use Rattle.paper.specs.Clauses.{Clause, variable, positive, every}
use Rattle.paper.specs.Session.{Wish, Counter, Sheet, Work, Session, Hint, of_rule, of_wish, of_counter, of_derived, of_nothing, fresh, no_wish, no_counter, wish_clause, wish_gives, counter_gives, remaining, problem_literal, named_literal, hint_named, hint_clause}
use Rattle.paper.specs.Steps.{Step, opening, rule, wish, derive, core, judge, opened, member, least, least_from, members, core_weight, accepted, effect, next}
use Rattle.paper.specs.Runs.{Entry, Runs, Reached}
use Rattle.paper.specs.Promises.{Unmoved}
use Rattle.paper.proofs.Lists.{and_split, and_both, or_mono, every-mono}
use Rattle.paper.proofs.Tables.{next_accepted, next_refused}
use Rattle.paper.proofs.Given.{wishes_below, wishes_above, wishes-append, counters_below}
use Rattle.paper.proofs.Accepted.{opens, derive_taken, derive_takes, core_taken, core_takes}
use Rattle.paper.proofs.Invariant.{there}
use Rattle.paper.proofs.CoreKept.{new_after}

-- T is S with more rules and wishes.
pub record Later (S T : Sheet) : Type 0 where
  pub width : T.width ≡ S.width
  pub variables : T.variables ≡ S.variables
  pub more_rules : List Clause
  pub rules : T.rules ≡ S.rules ++ more_rules
  pub more_wishes : List Wish
  pub wishes : T.wishes ≡ S.wishes ++ more_wishes

-- X is W with more derived clauses and counters.
pub record LaterWork (W X : Work) : Type 0 where
  pub more_derived : List Clause
  pub derived : X.derived ≡ W.derived ++ more_derived
  pub more_counters : List Counter
  pub counters : X.counters ≡ W.counters ++ more_counters

pub same_sheet : (S : Sheet) → Later S S
same_sheet S = record {
  width = refl;
  variables = refl;
  more_rules = [];
  rules = sym (append-nil S.rules);
  more_wishes = [];
  wishes = sym (append-nil S.wishes);
}

same_work : (W : Work) → LaterWork W W
same_work W = record {
  more_derived = [];
  derived = sym (append-nil W.derived);
  more_counters = [];
  counters = sym (append-nil W.counters);
}

later_twice : (S T U : Sheet) → Later S T → Later T U → Later S U
later_twice S T U a b = record {
  width = b.width ∙ a.width;
  variables = b.variables ∙ a.variables;
  more_rules = a.more_rules ++ b.more_rules;
  rules = rw (b.rules, a.rules) (append_assoc S.rules a.more_rules b.more_rules);
  more_wishes = a.more_wishes ++ b.more_wishes;
  wishes = rw (b.wishes, a.wishes) (append_assoc S.wishes a.more_wishes b.more_wishes);
}

-- ── An accepted step of an open session only adds ──

sheet_later : (s : Session) (m : Step) → opened s ≡ true → accepted s m ≡ true → Later s.sheet (effect s m).sheet
sheet_later s (opening n) o e = absurd (true≢false (sym o ∙ (opens s n e).closed))
sheet_later s (rule c) o e = record {
  width = refl;
  variables = refl;
  more_rules = c ∷ [];
  rules = refl;
  more_wishes = [];
  wishes = sym (append-nil s.sheet.wishes);
}
sheet_later s (wish w c) o e = record {
  width = refl;
  variables = refl;
  more_rules = [];
  rules = sym (append-nil s.sheet.rules);
  more_wishes = record { literals = c; weight = w } ∷ [];
  wishes = refl;
}
sheet_later s (derive c hints) o e = same_sheet s.sheet
sheet_later s (core d) o e = same_sheet s.sheet
sheet_later s (judge a) o e = same_sheet s.sheet

work_later : (s : Session) (m : Step) → opened s ≡ true → accepted s m ≡ true → LaterWork s.work (effect s m).work
work_later s (opening n) o e = absurd (true≢false (sym o ∙ (opens s n e).closed))
work_later s (rule c) o e = same_work s.work
work_later s (wish w c) o e = same_work s.work
work_later s (derive c hints) o e = record {
  more_derived = c ∷ [];
  derived = refl;
  more_counters = [];
  counters = sym (append-nil s.work.counters);
}
work_later s (core d) o e =
    let new = new_after (members s.work d) (core_weight s.sheet s.work d) s.work.counters in
    record { more_derived = []; derived = sym (append-nil s.work.derived); more_counters = new.0; counters = new.1 }
work_later s (judge a) o e = same_work s.work

pub still_open : (s : Session) (m : Step) → opened s ≡ true → accepted s m ≡ true → opened (next s m) ≡ true
still_open s m o e = rw (next_accepted s m e, (sheet_later s m o e).variables) o

pub run_later : (s : Session) (es : List Entry) (s' : Session) → opened s ≡ true → Runs s es s' → Later s.sheet s'.sheet
run_later s [] s' o r = rw (← r) (same_sheet s.sheet)
run_later s (e ∷ es) s' o r =
    later_twice s.sheet (next s e.step).sheet s'.sheet
    (rw (next_accepted s e.step r.0) (sheet_later s e.step o r.0))
    (run_later (next s e.step) es s' (still_open s e.step o r.0) r.2)

run_open : (s : Session) (es : List Entry) (s' : Session) → opened s ≡ true → Runs s es s' → opened s' ≡ true
run_open s es s' o r = rw (run_later s es s' o r).variables o

-- ── What a hint named, it names still, and it is the same clause ──

get_d_later : {A : Type 0} (xs ys more : List A) (d : A) (i : ℕ) → ys ≡ xs ++ more → i < length xs → (i < length ys) × (get_or ys i d ≡ get_or xs i d)
get_d_later xs ys more d i e h = let l = length-append xs more in (rw e (omega arith), rw e (get_or-append xs more d i h))

pub hint_later : (S T : Sheet) (W X : Work) → Later S T → LaterWork W X → (h : Hint) → hint_named S W h ≡ true
    → (hint_named T X h ≡ true) × (hint_clause T X h ≡ hint_clause S W h)
hint_later S T W X a b (of_rule i) e =
    let k = get_d_later S.rules T.rules a.more_rules [] i a.rules (ltb-true _ _ e) in
    (lt-ltb _ _ k.0, k.1)
hint_later S T W X a b (of_wish j) e =
    let k = get_d_later S.wishes T.wishes a.more_wishes no_wish j a.wishes (ltb-true _ _ e) in
    (lt-ltb _ _ k.0, ap (wish_clause j) k.1)
hint_later S T W X a b (of_counter c i) e =
    let k = get_d_later W.counters X.counters b.more_counters no_counter c b.counters (there W.counters c i (ltb-true _ _ e)) in
    (rw k.1 e, rw (k.1, a.width))
hint_later S T W X a b (of_derived d) e =
    let k = get_d_later W.derived X.derived b.more_derived [] d b.derived (ltb-true _ _ e) in
    (lt-ltb _ _ k.0, k.1)
hint_later S T W X a b of_nothing e = absurd (false≢true e)

-- Nothing is named before the opening.
first_opens : (m : Step) → accepted fresh m ≡ true → opened (next fresh m) ≡ true
first_opens (opening n) e = rw (next_accepted fresh (opening n) e) (lt-ltb 0 n (let h = (opens fresh n e).some in omega arith))
first_opens (rule c) e = absurd (false≢true e)
first_opens (wish w c) e = absurd (false≢true e)
first_opens (derive c hints) e = absurd (false≢true e)
first_opens (core d) e = absurd (false≢true e)
first_opens (judge a) e = absurd (false≢true e)

fresh_names : (h : Hint) → hint_named fresh.sheet fresh.work h ≡ false
fresh_names (of_rule i) = le-ltb i 0 (omega arith)
fresh_names (of_wish j) = le-ltb j 0 (omega arith)
fresh_names (of_counter c i) = le-ltb i 0 (omega arith)
fresh_names (of_derived d) = le-ltb d 0 (omega arith)
fresh_names of_nothing = refl

named_open : (es : List Entry) (s : Session) → Runs fresh es s → (h : Hint) → hint_named s.sheet s.work h ≡ true → opened s ≡ true
named_open [] s r h e = absurd (true≢false (sym e ∙ ap (λ (z : Session). hint_named z.sheet z.work h) (sym r) ∙ fresh_names h))
named_open (x ∷ es) s r h e = run_open (next fresh x.step) es s (first_opens x.step r.0) r.2

-- Before its opening a reached session is the fresh one.
pub closed_fresh : (s : Session) → Reached s → opened s ≡ false → s ≡ fresh
closed_fresh s r c = go r.0 r.1
  where
    go : (es : List Entry) → Runs fresh es s → s ≡ fresh
    go [] h = sym h
    go (x ∷ es) h = absurd (true≢false (sym (run_open (next fresh x.step) es s (first_opens x.step h.0) h.2) ∙ c))

pub unmoved : Unmoved
unmoved s r m h e = go (accepted s m) refl
  where
    go : (b : Bool) → accepted s m ≡ b
        → (hint_named (next s m).sheet (next s m).work h ≡ true)
        × (hint_clause (next s m).sheet (next s m).work h ≡ hint_clause s.sheet s.work h)
    go false u = rw (next_refused s m u) (e, refl)
    go true u =
        let o = named_open r.0 s r.1 h e in
        rw (next_accepted s m u)
        (hint_later s.sheet (effect s m).sheet s.work (effect s m).work (sheet_later s m o u) (work_later s m o u) h e)

-- ── A derived clause or a core that is accepted would be accepted later too, with the same answer and effect ──

module _ (S T : Sheet) (W : Work) (a : Later S T) where
  literal_later : (l : ℤ) → named_literal S W l ≡ true → named_literal T W l ≡ true
  literal_later l =
      rw (a.variables, a.width)
      (or_mono (problem_literal S.variables l) _ (problem_literal S.variables l) _ (λ e. e)
      (or_mono (leb first_wish (variable l) && ltb (variable l) (wish_variable (length S.wishes))) _ _ _ wider (λ e. e)))
    where
      wider : (leb first_wish (variable l) && ltb (variable l) (wish_variable (length S.wishes))) ≡ true
          → (leb first_wish (variable l) && ltb (variable l) (wish_variable (length T.wishes))) ≡ true
      wider e =
          let s = and_split (leb first_wish (variable l)) _ e in
          let h : variable l < wish_variable (length S.wishes) = ltb-true _ _ s.1 in
          let k = length-append S.wishes a.more_wishes in
          let q = ap length a.wishes in
          and_both _ _ s.0 (lt-ltb (variable l) (wish_variable (length T.wishes)) (omega arith))

  hints_later : (hints : List Hint) → every (hint_named S W) hints ≡ true
      → (every (hint_named T W) hints ≡ true) × (map (hint_clause T W) hints ≡ map (hint_clause S W) hints)
  hints_later [] e = (refl, refl)
  hints_later (h ∷ hints) e =
      let s = and_split (hint_named S W h) _ e in
      let k = hint_later S T W W a (same_work W) h s.0 in
      let ks = hints_later hints s.1 in
      (and_both _ _ k.0 ks.0, rw (k.1, ks.1))

  pub derive_later : (c : Clause) (hints : List Hint) → accepted (record { sheet = S; work = W }) (derive c hints) ≡ true
      → accepted (record { sheet = T; work = W }) (derive c hints) ≡ true
  derive_later c hints e =
      let taken = derive_taken (record { sheet = S; work = W }) c hints e in
      let k = hints_later hints taken.found in
      let named = every-mono (named_literal S W) (named_literal T W) c literal_later taken.named in
      derive_takes (record { sheet = T; work = W }) c hints (record {
        begun = rw a.variables taken.begun;
        short = rw a.width taken.short;
        named = named;
        once = taken.once;
        few = taken.few;
        found = k.0;
        shown = rw k.1 taken.shown;
        room = taken.room;
      })

  -- Weight left on a variable is the same later: new wishes have variables of their own.
  module _ (few : length T.wishes ≤ most_variables) where
    all_few : length S.wishes + length a.more_wishes ≤ most_variables
    all_few = let q = ap length a.wishes ∙ length-append S.wishes a.more_wishes in omega arith

    remaining_later : (v : ℕ) → 0 < remaining S W v → remaining T W v ≡ remaining S W v
    remaining_later v h =
        rw (a.wishes, a.width, wishes-append S.wishes a.more_wishes first_wish v) (go (ltb v (wish_variable (length S.wishes))) refl)
      where
        new : ℕ
        new = wish_gives a.more_wishes (wish_variable (length S.wishes)) v

        old : ℕ
        old = wish_gives S.wishes first_wish v

        gives : ℕ
        gives = counter_gives S.width.stride W.counters first_counter v

        go : (b : Bool) → ltb v (wish_variable (length S.wishes)) ≡ b → old + new + gives - W.used v ≡ old + gives - W.used v
        go true e = rw (wishes_below a.more_wishes (wish_variable (length S.wishes)) v (ltb-true _ _ e)) (omega arith)
        go false e =
            let l : wish_variable (length S.wishes) ≤ v = ltb-false _ _ e in
            high (leb v first_counter) refl (wishes_above S.wishes first_wish v l)
          where
            high : (b : Bool) → leb v first_counter ≡ b → old ≡ 0 → old + new + gives - W.used v ≡ old + gives - W.used v
            high true u z = let o = counters_below S.width.stride W.counters first_counter v (leb-true _ _ u) in absurd (omega arith)
            high false u z =
                let k : first_counter < v = leb-false _ _ u in
                rw (wishes_above a.more_wishes (wish_variable (length S.wishes)) v (omega (arith, all_few))) (omega arith)

    member_weight_lem : (l : ℤ) → member S W l ≡ true → remaining T W (variable l) ≡ remaining S W (variable l)
    member_weight_lem l e = remaining_later (variable l) (ltb-true _ _ (and_split (positive l) _ e).1)

    member_later : (l : ℤ) → member S W l ≡ true → member T W l ≡ true
    member_later l e = rw (member_weight_lem l e) e

    least_from_later : (l : ℤ) (c : Clause) → every (member S W) (l ∷ c) ≡ true
        → least_from (remaining T W) (variable l) (map variable c) ≡ least_from (remaining S W) (variable l) (map variable c)
    least_from_later l [] e = member_weight_lem l (and_split (member S W l) _ e).0
    least_from_later l (k ∷ c) e =
        let s = and_split (member S W l) _ e in
        rw (member_weight_lem l s.0, least_from_later k c s.1)

    least_later : (c : Clause) → every (member S W) c ≡ true → least (remaining T W) (map variable c) ≡ least (remaining S W) (map variable c)
    least_later [] e = refl
    least_later (l ∷ c) e = least_from_later l c e

    pub core_later : (d : ℕ) → accepted (record { sheet = S; work = W }) (core d) ≡ true
        → (accepted (record { sheet = T; work = W }) (core d) ≡ true) × (core_weight T W d ≡ core_weight S W d)
    core_later d e =
        let taken = core_taken (record { sheet = S; work = W }) d e in
        let c : Clause = get_or W.derived d [] in
        let form = and_split (ltb 0 (length c)) (every (member S W) c) taken.form in (
          core_takes (record { sheet = T; work = W }) d (record {
            begun = rw a.variables taken.begun;
            there = taken.there;
            form = and_both _ _ form.0 (every-mono (member S W) (member T W) c member_later form.1);
            room = rw a.width taken.room;
          }),
          least_later c form.1,
        )
