-- Demand 2 and the cost statement of demand 3, from what every accepted run keeps.
use mathlib.Core.Path.{◌≡◌, refl, sym, ◌∙◌, ap, fun_ext}
use mathlib.Core.Bool.{Bool, true, false, not, false≢true}
use mathlib.Core.List.{List, [], ◌∷◌}
use Prim.Native.Nat.{ℕ, suc, ◌+◌, ◌*◌, ◌-◌, ◌<◌, ◌≤◌}
use native.Mathlib.Omega.{arith}
use native.Mathlib.Nat.{add-zero}
use lib.Dec.{leb, eqb}
use lib.ListN.{length, get_or}
use borrow.Author.Tests.{leb-true, eqb-true}
use Rattle.paper.specs.Sizes.{most_weight, first_wish, first_counter, numbers_end}
use Rattle.paper.specs.Clauses.{Truth, clause_true, every, only, pick}
use Rattle.paper.specs.Session.{Wish, Sheet, Work, Session, fresh, no_wish, wish_gives, counter_gives, given, remaining}
use Rattle.paper.specs.Truth.{meets, cost, cost_of, truth, weight_on, all_weights}
use Rattle.paper.specs.Steps.{Step, opening, rule, wish, derive, core, judge, opened, met_before, accepted, effect, next}
use Rattle.paper.specs.Runs.{Entry, Runs, Reached}
use Rattle.paper.specs.Promises.{CountersTrue, DerivedTrue, EmptyClause, NoCheaper, CostLaw, TotalLaw}
use Rattle.paper.specs.declared.Answer.TheVariants.{Best, Counted, Broken, Refused}
use Rattle.paper.proofs.Lists.{and_split}
use Rattle.paper.proofs.Tables.{next_accepted}
use Rattle.paper.proofs.Trees.{narrow_fits}
use Rattle.paper.proofs.Sums.{weight_add, weight_zero, weight_point}
use Rattle.paper.proofs.Truths.{Faithful, truth_problem, truth_faithful, clauses_same, cost_same}
use Rattle.paper.proofs.Accepted.{opens}
use Rattle.paper.proofs.Invariant.{Sound, Balanced, sound_blank, sound_rule, sound_wish, sound_derive, counter_true, derive_true}
use Rattle.paper.proofs.CoreKept.{sound_core}

-- ── Every accepted run keeps it ──

abbrev pub SoundSession : Session → Type 0
SoundSession s = Sound s.sheet s.work

sound_step : (s : Session) (m : Step) → accepted s m ≡ true → SoundSession s → SoundSession (effect s m)
sound_step s (opening n) e h = sound_blank n narrow_fits (opens s n e).small
sound_step s (rule c) e h = sound_rule s.sheet s.work c e h
sound_step s (wish w c) e h = sound_wish s.sheet s.work w c e h
sound_step s (derive c hints) e h = sound_derive s.sheet s.work c hints e h
sound_step s (core d) e h = sound_core s.sheet s.work d e h
sound_step s (judge a) e h = h

sound_runs : (s : Session) (es : List Entry) (s' : Session) → SoundSession s → Runs s es s' → SoundSession s'
sound_runs s [] s' h r = rw r at h
sound_runs s (e ∷ es) s' h r =
    sound_runs (next s e.step) es s' (rw (next_accepted s e.step r.0) (sound_step s e.step r.0 h)) r.2

pub reached_sound : (s : Session) → Reached s → SoundSession s
reached_sound s r = sound_runs fresh r.0 s (sound_blank 0 narrow_fits (omega arith)) r.1

-- ── Weights on the wishes' variables ──

-- Where wish variables are true exactly of broken wishes, their weights are the cost.
cost_weight : (t : Truth) (n : ℕ) (xs : List Wish) (v₀ : ℕ) → v₀ + length xs ≤ n
    → ((j : ℕ) → j < length xs → t (v₀ + j) ≡ not (clause_true t (get_or xs j no_wish).literals)) → weight_on t n (wish_gives xs v₀) ≡ cost_of t xs
cost_weight t n [] v₀ h f = weight_zero t n (λ v. 0) (λ v l. refl)
cost_weight t n (x ∷ xs) v₀ h f =
    let g : t v₀ ≡ not (clause_true t x.literals) = rw (add-zero v₀) at (f 0 (omega arith)) in
    rw (
      weight_add t n (λ v. only (eqb v v₀) x.weight) (wish_gives xs (suc v₀)),
      weight_point t n v₀ x.weight (omega arith),
      g,
      cost_weight t n xs (suc v₀) (omega arith) (λ j k. rw (shift v₀ j) at (f (suc j) (omega arith))),
    )
  where
    shift : (b j : ℕ) → b + suc j ≡ suc b + j
    shift b j = omega arith

all_weight : (n : ℕ) (xs : List Wish) (v₀ : ℕ) → v₀ + length xs ≤ n → weight_on (λ v. true) n (wish_gives xs v₀) ≡ all_weights xs
all_weight n [] v₀ h = weight_zero (λ v. true) n (λ v. 0) (λ v l. refl)
all_weight n (x ∷ xs) v₀ h =
    rw (
      weight_add (λ v. true) n (λ v. only (eqb v v₀) x.weight) (wish_gives xs (suc v₀)),
      weight_point (λ v. true) n v₀ x.weight (omega arith),
      all_weight n xs (suc v₀) (omega arith),
    )

-- ── Bound and remaining weight against the wishes' weight, under any truth that is in balance ──

sub_back : (a b : ℕ) → b ≤ a → a - b + b ≡ a
sub_back a b h = omega arith

in_balance : (S : Sheet) (W : Work) (t : Truth) (n : ℕ) → ((v : ℕ) → W.used v ≤ given S W v) → Balanced n S.width.stride W t
    → weight_on t n (wish_gives S.wishes first_wish) ≡ W.bound + weight_on t n (remaining S W)
in_balance S W t n within balanced =
    let d = weight_add t n (wish_gives S.wishes first_wish) (counter_gives S.width.stride W.counters first_counter) in
    let e = weight_add t n (remaining S W) W.used in
    let g : weight_on t n (λ v. remaining S W v + W.used v) ≡ weight_on t n (given S W)
    = ap (weight_on t n) (fun_ext (λ v. sub_back (given S W v) (W.used v) (within v))) in
    omega arith

module _ (S : Sheet) (W : Work) (s : Sound S W) where
  low_end : first_wish + length S.wishes ≤ numbers_end S.width
  low_end = let a = s.few in omega arith

  faithful : (a : Truth) → Faithful S W (truth S W a)
  faithful a = let f = s.few in truth_faithful S W a s.small (omega arith) s.wish_form s.fits s.ordered

  module _ (a : Truth) (m : meets S a ≡ true) where
    meets_truth : meets S (truth S W a) ≡ true
    meets_truth = clauses_same S.variables a (truth S W a) (truth_problem S W a s.small) S.rules s.rule_form ∙ m

    derived_holds : every (clause_true (truth S W a)) W.derived ≡ true
    derived_holds = s.derived_true (truth S W a) (faithful a) meets_truth

    cost_is : cost S a ≡ W.bound + weight_on (truth S W a) (numbers_end S.width) (remaining S W)
    cost_is =
        sym (cost_same S.variables a (truth S W a) (truth_problem S W a s.small) S.wishes s.wish_form)
        ∙ sym (cost_weight (truth S W a) (numbers_end S.width) S.wishes first_wish low_end (faithful a).wishes)
        ∙ in_balance S W (truth S W a) (numbers_end S.width) s.within (s.balanced (truth S W a) (faithful a) meets_truth)

    at_least : W.bound ≤ cost S a
    at_least = let e = cost_is in omega arith

  light_weights : (xs : List Wish) → every (λ (x : Wish). leb x.weight most_weight) xs ≡ true → all_weights xs ≤ most_weight * length xs
  light_weights [] e = omega arith
  light_weights (x ∷ xs) e =
      let k = and_split (leb x.weight most_weight) _ e in
      omega (arith, leb-true x.weight most_weight k.0, light_weights xs k.1)

  total_is : W.bound + weight_on (λ v. true) (numbers_end S.width) (remaining S W) ≡ all_weights S.wishes
  total_is =
      sym (in_balance S W (λ v. true) (numbers_end S.width) s.within s.balanced_all)
      ∙ all_weight (numbers_end S.width) S.wishes first_wish low_end

  bound_small : W.bound ≤ 512000000
  bound_small = let e = total_is in let l = light_weights S.wishes s.light in let f = s.few in omega arith

-- ── The promises ──

pub counters_true : CountersTrue
counters_true s r a c i e =
    let h = reached_sound s r in
    counter_true s.sheet s.work (truth s.sheet s.work a) (faithful s.sheet s.work h a) h.ordered c i e

pub derived_true : DerivedTrue
derived_true s r a m = derived_holds s.sheet s.work (reached_sound s r) a m

pub empty_clause : EmptyClause
empty_clause s r hints e a = go (meets s.sheet a) refl
  where
    go : (b : Bool) → meets s.sheet a ≡ b → meets s.sheet a ≡ false
    go false u = u
    go true u =
        let h = reached_sound s r in
        absurd (false≢true (derive_true s.sheet s.work (truth s.sheet s.work a) (faithful s.sheet s.work h a) h.ordered
        (meets_truth s.sheet s.work h a u) (derived_holds s.sheet s.work h a u) [] hints e))

pub cost_law : CostLaw
cost_law s r a m = cost_is s.sheet s.work (reached_sound s r) a m

pub total_law : TotalLaw
total_law s r = let h = reached_sound s r in (total_is s.sheet s.work h, bound_small s.sheet s.work h)

-- What a judging that answers "best" says.
judged_best : (o b x : Bool) (i k l k' l' : ℕ)
    → pick (not o) (Refused 12) (pick (not b) (Broken i) (pick x (Best k l) (Counted k l))) ≡ Best k' l'
    → (b ≡ true) × (x ≡ true) × (k ≡ k') × (l ≡ l')
judged_best false b x i k l k' l' e = let z : ◌≡◌ {A = ℕ} 0 1 = cc in absurd (omega arith)
judged_best true false x i k l k' l' e = let z : ◌≡◌ {A = ℕ} 0 1 = cc in absurd (omega arith)
judged_best true true false i k l k' l' e = let z : ◌≡◌ {A = ℕ} 0 1 = cc in absurd (omega arith)
judged_best true true true i k l k' l' e = (refl, refl, cc, cc)

pub no_cheaper : NoCheaper
no_cheaper s r a k bound e =
    let h = reached_sound s r in
    let j = judged_best (opened s) (meets s.sheet a) (eqb (cost s.sheet a) s.work.bound) (met_before a s.sheet.rules)
    (cost s.sheet a) s.work.bound k bound e in
    let q : cost s.sheet a ≡ s.work.bound = eqb-true _ _ j.1 in
    (j.0, j.2, j.3, λ b m. let l = at_least s.sheet s.work h b m in omega arith)
