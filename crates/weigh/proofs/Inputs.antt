-- What each counter stands over, and the truth of every variable that has a place: wishes first, then counters in their order,
-- for a counter's inputs are wish variables and outputs of earlier counters.
use mathlib.Core.Path.{◌≡◌, ◌∙◌, ap}
use mathlib.Core.Bool.{true, not}
use mathlib.Core.List.{List, [], ◌∷◌, ◌++◌, map, append-nil}
use mathlib.Core.Logic.{◌⊎◌, inl, inr}
use Prim.Native.Nat.{ℕ, zero, suc, ◌+◌, ◌-◌, ◌*◌, ◌<◌, ◌≤◌}
use native.Mathlib.Nat.{eq-zero-or-pos, eq-or-lt_of_le}
use native.Mathlib.Omega.{arith, not-le}
use lib.Dec.{ltb}
use lib.IntN.{ℤ, pos}
use lib.ListN.{length, get_or, length-append, length-map, get_or-append, get_or-map}
use lib.Seq.{get_or-append_seam}
use borrow.Author.Tests.{ltb-true}
use Rattle.paper.specs.Sizes.{first_wish, wish_variable, first_counter, counter_start}
use Rattle.paper.specs.declared.Width.{Width}
use Rattle.paper.specs.Clauses.{Clause, Truth, variable, positive, clause_true, every}
use Rattle.paper.specs.Session.{Wish, Counter, Sheet, Work, Session, no_wish, no_counter}
use Rattle.paper.specs.Session.{wish_gives, counter_gives, given, remaining, problem_literal}
use Rattle.paper.specs.Truth.{truth}
use Rattle.paper.specs.Steps.{Step, opening, rule, wish, derive, core, judge, accepted, effect}
use Rattle.paper.specs.Steps.{member, members, core_weight, with_counter_over}
use Rattle.paper.specs.Runs.{Reached}
use Rattle.paper.proofs.Lists.{and_split, every-at}
use Rattle.paper.proofs.Trees.{true_among}
use Rattle.paper.proofs.CounterTruth.{root_counts}
use Rattle.paper.proofs.Truths.{Faithful, Ordered, clause_same, truth_problem, truth_faithful}
use Rattle.paper.proofs.Given.{wishes_below, wishes_above, counters_below}
use Rattle.paper.proofs.Accepted.{core_taken}
use Rattle.paper.proofs.Costs.{reached_sound}
use Rattle.weights.proofs.Spreads.{upper_past}
use Rattle.weigh.proofs.Induction.{reached_keeps}

-- ── Variables that weight was given to ──

-- What v is, where `before` counters are there already: a wish variable, or a root output of one of those counters.
pub data StandsOn (u : Width) (wishes : ℕ) (xs : List Counter) (before v : ℕ) : Type 0 where
  on_wish : (j : ℕ) → j < wishes → v ≡ wish_variable j → StandsOn u wishes xs before v
  on_output : (c k : ℕ) → c < before → k < length (get_or xs c no_counter).inputs → v ≡ counter_start u c + k
      → StandsOn u wishes xs before v

-- Of the counters that begin at `start`, the one that v is a root output of.
record OutputAt (stride : ℕ) (xs : List Counter) (start v : ℕ) : Type 0 where
  counter : ℕ
  output : ℕ
  there : counter < length xs
  within : output < length (get_or xs counter no_counter).inputs
  is : v ≡ start + stride * counter + output

output_at : (stride : ℕ) (xs : List Counter) (start v : ℕ) → 0 < counter_gives stride xs start v → OutputAt stride xs start v
output_at stride [] start v h = absurd (omega arith)
output_at stride (x ∷ xs) start v h = go (eq-zero-or-pos (counter_gives stride xs after v)) (output_at stride xs after v)
  where
    after : ℕ
    after = start + stride

    go : (counter_gives stride xs after v ≡ 0) ⊎ (0 < counter_gives stride xs after v)
        → (0 < counter_gives stride xs after v → OutputAt stride xs after v) → OutputAt stride (x ∷ xs) start v
    go (inl none) ih =
        let m = length x.inputs in
        let low = not-le v start (λ k. omega (arith, counters_below stride (x ∷ xs) start v k)) in
        let high = not-le (start + m) v (λ k. omega (arith, upper_past x.weight start m v k)) in
        record { counter = 0; output = v - start; there = omega arith; within = omega arith; is = omega arith }
    go (inr some) ih =
        let at = ih some in
        record {
          counter = suc at.counter;
          output = at.output;
          there = omega (arith, at.there);
          within = at.within;
          is = omega (arith, at.is);
        }

given_stands : (S : Sheet) (W : Work) (v : ℕ) → 0 < given S W v
    → StandsOn S.width (length S.wishes) W.counters (length W.counters) v
given_stands S W v h = go (eq-zero-or-pos (wish_gives S.wishes first_wish v))
  where
    go : (wish_gives S.wishes first_wish v ≡ 0) ⊎ (0 < wish_gives S.wishes first_wish v)
        → StandsOn S.width (length S.wishes) W.counters (length W.counters) v
    go (inl none) =
        let at = output_at S.width.stride W.counters first_counter v (omega arith) in
        on_output at.counter at.output at.there at.within at.is
    go (inr some) =
        let low = not-le (suc v) first_wish (λ k. omega (arith, wishes_below S.wishes first_wish v k)) in
        let high = not-le (wish_variable (length S.wishes)) v (λ k. omega (arith, wishes_above S.wishes first_wish v k)) in
        on_wish (v - first_wish) (omega arith) (omega arith)

-- ── Every input of every counter ──

abbrev InputsStand : Width → ℕ → List Counter → Type 0
InputsStand u wishes xs =
    (c : ℕ) → c < length xs → (i : ℕ) → i < length (get_or xs c no_counter).inputs
    → StandsOn u wishes xs c (get_or (get_or xs c no_counter).inputs i 0)

module _ (u : Width) where
  -- More wishes and later counters change nothing.
  stands_later : {wishes more : ℕ} {xs : List Counter} (ys : List Counter) {before v : ℕ} → wishes ≤ more → before ≤ length xs
      → StandsOn u wishes xs before v → StandsOn u more (xs ++ ys) before v
  stands_later ys h k (on_wish j there is) = on_wish j (omega arith) is
  stands_later {xs = xs} ys h k (on_output c i there within is) =
      on_output c i there (rw (get_or-append xs ys no_counter c (omega arith)) within) is

  wishes_more : (wishes more : ℕ) (xs : List Counter) → wishes ≤ more → InputsStand u wishes xs → InputsStand u more xs
  wishes_more wishes more xs h all c k i l =
      rw (append-nil xs) at (stands_later [] h (omega arith) (all c k i l))

  module _ (wishes : ℕ) (xs : List Counter) (all : InputsStand u wishes xs) where
    counters_more : (x : Counter)
        → ((i : ℕ) → i < length x.inputs → StandsOn u wishes xs (length xs) (get_or x.inputs i 0))
        → InputsStand u wishes (xs ++ (x ∷ []))
    counters_more x new c k = go (eq-or-lt_of_le {n = c} {m = length xs} (omega (arith, length-append xs (x ∷ []))))
      where
        go : (c ≡ length xs) ⊎ (c < length xs) → (i : ℕ) → i < length (get_or (xs ++ (x ∷ [])) c no_counter).inputs
            → StandsOn u wishes (xs ++ (x ∷ [])) c (get_or (get_or (xs ++ (x ∷ [])) c no_counter).inputs i 0)
        go (inl last) =
            rw (last, get_or-append_seam xs x [] no_counter)
            (λ i l. stands_later (x ∷ []) (omega arith) (omega arith) (new i l))
        go (inr low) =
            rw (get_or-append xs (x ∷ []) no_counter c low)
            (λ i l. stands_later (x ∷ []) (omega arith) (omega arith) (all c low i l))

    counters_over : (vs : List ℕ) (w : ℕ) → ((i : ℕ) → i < length vs → StandsOn u wishes xs (length xs) (get_or vs i 0))
        → InputsStand u wishes (with_counter_over vs w xs)
    counters_over [] w new = all
    counters_over (x ∷ []) w new = all
    counters_over (x ∷ (y ∷ ys)) w new = counters_more (record { inputs = x ∷ (y ∷ ys); weight = w }) new

-- A member of a core has weight left, so some was given to it.
member_stands : (S : Sheet) (W : Work) (c : Clause) → every (member S W) c ≡ true → (i : ℕ) → i < length (map variable c)
    → StandsOn S.width (length S.wishes) W.counters (length W.counters) (get_or (map variable c) i 0)
member_stands S W c e i h =
    let long : length (map variable c) ≡ length c = length-map c variable in
    let l : ℤ = get_or c i (pos 0) in
    let left : 0 < remaining S W (variable l) =
    ltb-true _ _ (and_split (positive l) _ (every-at (member S W) (pos 0) c e i (omega arith))).1 in
    rw (get_or-map variable c i (pos 0)) (given_stands S W (variable l) (omega arith))

abbrev SessionStands : Session → Type 0
SessionStands s = InputsStand s.sheet.width (length s.sheet.wishes) s.work.counters

step_stands : (s : Session) (m : Step) → Reached s → accepted s m ≡ true → SessionStands s → SessionStands (effect s m)
step_stands s (opening n) r e all = λ c k. absurd (omega arith)
step_stands s (rule c) r e all = all
step_stands s (wish w c) r e all =
    wishes_more s.sheet.width (length s.sheet.wishes) _ s.work.counters
    (omega (arith, length-append s.sheet.wishes (record { literals = c; weight = w } ∷ []))) all
step_stands s (derive c hints) r e all = all
step_stands s (core d) r e all =
    let c = get_or s.work.derived d [] in
    let form = and_split (ltb 0 (length c)) _ (core_taken s d e).form in
    counters_over s.sheet.width (length s.sheet.wishes) s.work.counters all (members s.work d)
    (core_weight s.sheet s.work d) (member_stands s.sheet s.work c form.1)
step_stands s (judge a) r e all = all

-- A counter's inputs are wish variables and root outputs of the counters before it.
pub inputs_stand : (s : Session) → Reached s → (c : ℕ) → c < length s.work.counters
    → (i : ℕ) → i < length (get_or s.work.counters c no_counter).inputs
    → StandsOn s.sheet.width (length s.sheet.wishes) s.work.counters c
    (get_or (get_or s.work.counters c no_counter).inputs i 0)
inputs_stand = reached_keeps SessionStands (λ c k. absurd (omega arith)) step_stands

-- ── How many inputs a counter has ──

ordered_inputs : (u : Width) (xs : List Counter) (start : ℕ) → Ordered u start xs → (c : ℕ) → c < length xs
    → (1 < length (get_or xs c no_counter).inputs) × (length (get_or xs c no_counter).inputs ≤ u.literals)
ordered_inputs u [] start o c h = absurd (omega arith)
ordered_inputs u (x ∷ xs) start o zero h = (o.0, o.1)
ordered_inputs u (x ∷ xs) start o (suc c) h = ordered_inputs u xs (start + u.stride) o.4 c (omega arith)

module _ (s : Session) (r : Reached s) where
  pub input_count : (c : ℕ) → c < length s.work.counters
      → (1 < length (get_or s.work.counters c no_counter).inputs)
      × (length (get_or s.work.counters c no_counter).inputs ≤ s.sheet.width.literals)
  input_count = ordered_inputs s.sheet.width s.work.counters first_counter (reached_sound s r).ordered

  -- ── The truth of every variable that has a place ──

  module _ (a : Truth) where
    faithful : Faithful s.sheet s.work (truth s.sheet s.work a)
    faithful =
        let k = reached_sound s r in
        let few = k.few in
        truth_faithful s.sheet s.work a k.small (omega arith) k.wish_form k.fits k.ordered

    pub wish_truth : (j : ℕ) → j < length s.sheet.wishes
        → truth s.sheet s.work a (wish_variable j) ≡ not (clause_true a (get_or s.sheet.wishes j no_wish).literals)
    wish_truth j h =
        let k = reached_sound s r in
        let n = s.sheet.variables in
        let form =
        every-at (λ (x : Wish). every (problem_literal n) x.literals) no_wish s.sheet.wishes k.wish_form j h in
        let same = truth_problem s.sheet s.work a k.small in
        faithful.wishes j h
        ∙ ap not (clause_same n a (truth s.sheet s.work a) same (get_or s.sheet.wishes j no_wish).literals form)

    pub output_truth : (c : ℕ) → c < length s.work.counters
        → (k : ℕ) → k < length (get_or s.work.counters c no_counter).inputs
        → truth s.sheet s.work a (counter_start s.sheet.width c + k)
        ≡ ltb k (true_among (truth s.sheet s.work a) (get_or s.work.counters c no_counter).inputs)
    output_truth c h =
        root_counts (truth s.sheet s.work a) (get_or s.work.counters c no_counter).inputs
        (counter_start s.sheet.width c) (input_count c h).0 (faithful.counters c h)
