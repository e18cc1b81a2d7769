-- What every accepted run keeps, and that rules, wishes and derived clauses keep it. Cores are in CoreKept.
use mathlib.Core.Path.{◌≡◌, refl, sym, ap}
use mathlib.Core.Bool.{Bool, true, false, not, ◌||◌, ◌&&◌, or-false, or_assoc}
use mathlib.Core.List.{List, [], ◌∷◌, ◌++◌, map}
use Prim.Native.Nat.{ℕ, zero, suc, ◌+◌, ◌<◌, ◌≤◌}
use native.Mathlib.Omega.{arith}
use lib.Dec.{leb}
use lib.IntN.{ℤ, pos}
use lib.ListN.{length, get_or, length-append, get_or-append}
use borrow.Author.Tests.{ltb-true, le-leb}
use Rattle.paper.specs.Sizes.{narrow, most_variables, most_weight, first_wish, wish_variable, first_counter, counter_start, numbers_end}
use Rattle.paper.specs.declared.Width.{Width}
use Rattle.paper.specs.Clauses.{Clause, Truth, literal_true, clause_true, every, variable_twice}
use Rattle.paper.specs.Counters.{tree_of, clauses}
use Rattle.paper.specs.Session.{Wish, Counter, Sheet, Work, Hint, of_rule, of_wish, of_counter, of_derived, of_nothing, blank, no_work, no_wish, no_counter, hint_named, hint_clause, given, counter_gives, problem_literal, named_literal}
use Rattle.paper.specs.Truth.{meets, weight_on}
use Rattle.paper.specs.Steps.{rule, wish, derive, accepted, add_rule, add_wish, add_derived}
use Rattle.paper.proofs.Lists.{and_split, and_both, every-mono, every-snoc, every-before, every-at}
use Rattle.paper.proofs.Trees.{Fits}
use Rattle.paper.proofs.CounterTruth.{Positive, tree_positive, clause_true_lem}
use Rattle.paper.proofs.Sums.{weight_zero}
use Rattle.paper.proofs.Readings.{shown_true}
use Rattle.paper.proofs.Truths.{Faithful, Ordered}
use Rattle.paper.proofs.Bounds.{below, named_below}
use Rattle.paper.proofs.Given.{wishes-append}
use Rattle.paper.proofs.Accepted.{rule_taken, wish_taken, derive_taken}

-- What members have lost, on the variables that are true, is the bound and what the counters have given.
abbrev pub Balanced : ℕ → ℕ → Work → Truth → Type 0
Balanced n stride W t = weight_on t n W.used ≡ W.bound + weight_on t n (counter_gives stride W.counters first_counter)

pub record Sound (S : Sheet) (W : Work) : Type 0 where
  pub fits : Fits S.width
  pub small : S.variables ≤ most_variables
  pub few : length S.wishes ≤ 512
  pub few_counters : length W.counters ≤ S.width.counters
  pub rule_form : every (every (problem_literal S.variables)) S.rules ≡ true
  pub wish_form : every (λ (x : Wish). every (problem_literal S.variables) x.literals) S.wishes ≡ true
  pub light : every (λ (x : Wish). leb x.weight most_weight) S.wishes ≡ true
  pub ordered : Ordered S.width first_counter W.counters
  pub derived_form : every (λ c. leb (length c) S.width.literals && not (variable_twice c)) W.derived ≡ true
  pub derived_below : every (every (below (numbers_end S.width))) W.derived ≡ true
  pub derived_true : (t : Truth) → Faithful S W t → meets S t ≡ true → every (clause_true t) W.derived ≡ true
  pub within : (v : ℕ) → W.used v ≤ given S W v
  pub balanced : (t : Truth) → Faithful S W t → meets S t ≡ true → Balanced (numbers_end S.width) S.width.stride W t
  pub balanced_all : Balanced (numbers_end S.width) S.width.stride W (λ v. true)

-- ── Opening ──

blank_balanced : (n stride : ℕ) (t : Truth) → Balanced n stride no_work t
blank_balanced n stride t = rw (weight_zero t n (λ v. 0) (λ v h. refl))

pub sound_blank : (n : ℕ) → Fits narrow → n ≤ most_variables → Sound (blank n) no_work
sound_blank n ft h = record {
  fits = ft;
  small = h;
  few = omega arith;
  few_counters = omega arith;
  rule_form = refl;
  wish_form = refl;
  light = refl;
  ordered = tt;
  derived_form = refl;
  derived_below = refl;
  derived_true = λ t f m. refl;
  within = λ v. omega arith;
  balanced = λ t f m. blank_balanced (numbers_end narrow) narrow.stride t;
  balanced_all = blank_balanced (numbers_end narrow) narrow.stride (λ v. true);
}

-- ── Rules and wishes ──

-- A truth that is faithful with more wishes is faithful with fewer.
faithful_fewer : (S T : Sheet) (W : Work) (t : Truth) (more : List Wish) → T.width ≡ S.width → T.wishes ≡ S.wishes ++ more
    → Faithful T W t → Faithful S W t
faithful_fewer S T W t more u e f = record {
  wishes = λ j h.
      let l = length-append S.wishes more in
      let k : j < length T.wishes = rw e (omega arith) in
      rw (e, get_or-append S.wishes more no_wish j h) at (f.wishes j k);
  counters = λ c h. rw u at (f.counters c h);
}

pub sound_rule : (S : Sheet) (W : Work) (c : Clause) → accepted (record { sheet = S; work = W }) (rule c) ≡ true → Sound S W → Sound (add_rule S c) W
sound_rule S W c e s =
    let taken = rule_taken (record { sheet = S; work = W }) c e in
    let same : (t : Truth) → Faithful (add_rule S c) W t → Faithful S W t = λ t f. record { wishes = f.wishes; counters = f.counters } in
    record {
      fits = s.fits;
      small = s.small;
      few = s.few;
      few_counters = s.few_counters;
      rule_form = every-snoc (every (problem_literal S.variables)) S.rules c s.rule_form taken.form;
      wish_form = s.wish_form;
      light = s.light;
      ordered = s.ordered;
      derived_form = s.derived_form;
      derived_below = s.derived_below;
      derived_true = λ t f m. s.derived_true t (same t f) (every-before (clause_true t) S.rules (c ∷ []) m);
      within = s.within;
      balanced = λ t f m. s.balanced t (same t f) (every-before (clause_true t) S.rules (c ∷ []) m);
      balanced_all = s.balanced_all;
    }

pub sound_wish : (S : Sheet) (W : Work) (w : ℕ) (c : Clause) → accepted (record { sheet = S; work = W }) (wish w c) ≡ true → Sound S W
    → Sound (add_wish S w c) W
sound_wish S W w c e s =
    let taken = wish_taken (record { sheet = S; work = W }) w c e in
    let new : Wish = record { literals = c; weight = w } in
    let same : (t : Truth) → Faithful (add_wish S w c) W t → Faithful S W t = λ t f. faithful_fewer S (add_wish S w c) W t (new ∷ []) refl refl f in
    record {
      fits = s.fits;
      small = s.small;
      few = rw (length-append S.wishes (new ∷ [])) (omega arith);
      few_counters = s.few_counters;
      rule_form = s.rule_form;
      wish_form = every-snoc (λ (x : Wish). every (problem_literal S.variables) x.literals) S.wishes new s.wish_form taken.form;
      light = every-snoc (λ (x : Wish). leb x.weight most_weight) S.wishes new s.light (le-leb _ _ taken.light);
      ordered = s.ordered;
      derived_form = s.derived_form;
      derived_below = s.derived_below;
      derived_true = λ t f m. s.derived_true t (same t f) m;
      within = λ v. let g = s.within v in rw (wishes-append S.wishes (new ∷ []) first_wish v) (omega arith);
      balanced = λ t f m. s.balanced t (same t f) m;
      balanced_all = s.balanced_all;
    }

-- ── Derived clauses ──

ordered_at : (u : Width) (xs : List Counter) (start : ℕ) → Ordered u start xs → (c : ℕ) → c < length xs → Positive (tree_of (get_or xs c no_counter).inputs)
ordered_at u [] start o c h = absurd (omega arith)
ordered_at u (x ∷ xs) start o zero h = tree_positive x.inputs (omega arith) o.2
ordered_at u (x ∷ xs) start o (suc c) h = ordered_at u xs (start + u.stride) o.4 c (omega arith)

-- A counter that has a clause is there.
pub there : (xs : List Counter) (c i : ℕ) → i < clauses (tree_of (get_or xs c no_counter).inputs) → c < length xs
there [] c i h = absurd (omega arith)
there (x ∷ xs) zero i h = omega arith
there (x ∷ xs) (suc c) i h = omega (arith, there xs c i h)

true_snoc : (t : Truth) (c : Clause) (l : ℤ) → clause_true t (c ++ (l ∷ [])) ≡ (clause_true t c || literal_true t l)
true_snoc t [] l = or-false _
true_snoc t (x ∷ c) l = rw (true_snoc t c l) (sym (or_assoc (literal_true t x) (clause_true t c) (literal_true t l)))

excluded : (b d : Bool) → d ≡ not b → (b || d) ≡ true
excluded true d e = refl
excluded false d e = e

module _ (S : Sheet) (W : Work) (t : Truth) (f : Faithful S W t) (ordered : Ordered S.width first_counter W.counters) where
  pub counter_true : (c i : ℕ) → hint_named S W (of_counter c i) ≡ true → clause_true t (hint_clause S W (of_counter c i)) ≡ true
  counter_true c i e =
      let h : i < clauses (tree_of (get_or W.counters c no_counter).inputs) = ltb-true _ _ e in
      let k = there W.counters c i h in
      clause_true_lem t (tree_of (get_or W.counters c no_counter).inputs) (counter_start S.width c) i (f.counters c k)
      (ordered_at S.width W.counters first_counter ordered c k) (omega arith) h

  hint_true : meets S t ≡ true → every (clause_true t) W.derived ≡ true → (h : Hint) → hint_named S W h ≡ true → clause_true t (hint_clause S W h) ≡ true
  hint_true m dt (of_rule i) e = every-at (clause_true t) [] S.rules m i (ltb-true _ _ e)
  hint_true m dt (of_wish j) e =
      rw (true_snoc t (get_or S.wishes j no_wish).literals (pos (wish_variable j)))
      (excluded (clause_true t (get_or S.wishes j no_wish).literals) (t (wish_variable j)) (f.wishes j (ltb-true _ _ e)))
  hint_true m dt (of_counter c i) e = counter_true c i e
  hint_true m dt (of_derived d) e = every-at (clause_true t) [] W.derived dt d (ltb-true _ _ e)
  hint_true m dt of_nothing e = e

  hints_true : meets S t ≡ true → every (clause_true t) W.derived ≡ true → (hints : List Hint) → every (hint_named S W) hints ≡ true
      → every (clause_true t) (map (hint_clause S W) hints) ≡ true
  hints_true m dt [] e = refl
  hints_true m dt (h ∷ hints) e =
      let s = and_split (hint_named S W h) _ e in
      and_both _ _ (hint_true m dt h s.0) (hints_true m dt hints s.1)

  -- An accepted derived clause follows.
  pub derive_true : meets S t ≡ true → every (clause_true t) W.derived ≡ true → (c : Clause) (hints : List Hint)
      → accepted (record { sheet = S; work = W }) (derive c hints) ≡ true → clause_true t c ≡ true
  derive_true m dt c hints e =
      let taken = derive_taken (record { sheet = S; work = W }) c hints e in
      shown_true t c (map (hint_clause S W) hints) (hints_true m dt hints taken.found) taken.shown

pub sound_derive : (S : Sheet) (W : Work) (c : Clause) (hints : List Hint) → accepted (record { sheet = S; work = W }) (derive c hints) ≡ true
    → Sound S W → Sound S (add_derived W c)
sound_derive S W c hints e s =
    let taken = derive_taken (record { sheet = S; work = W }) c hints e in
    let same : (t : Truth) → Faithful S (add_derived W c) t → Faithful S W t = λ t f. record { wishes = f.wishes; counters = f.counters } in
    record {
      fits = s.fits;
      small = s.small;
      few = s.few;
      few_counters = s.few_counters;
      rule_form = s.rule_form;
      wish_form = s.wish_form;
      light = s.light;
      ordered = s.ordered;
      derived_form =
          every-snoc (λ x. leb (length x) S.width.literals && not (variable_twice x)) W.derived c s.derived_form
          (and_both _ _ (le-leb _ _ taken.short) (ap not taken.once));
      derived_below =
          every-snoc (every (below (numbers_end S.width))) W.derived c s.derived_below
          (every-mono (named_literal S W) (below (numbers_end S.width)) c
          (named_below S W s.fits s.small (let f = s.few in omega arith) s.few_counters s.ordered) taken.named);
      derived_true = λ t f m.
          let old = s.derived_true t (same t f) m in
          every-snoc (clause_true t) W.derived c old (derive_true S W t (same t f) s.ordered m old c hints e);
      within = s.within;
      balanced = λ t f m. s.balanced t (same t f) m;
      balanced_all = s.balanced_all;
    }
