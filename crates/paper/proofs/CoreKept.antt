-- What every accepted run keeps is kept by cores: the weight that the members lose is the bound's gain and the new counter's.
use mathlib.Core.Path.{◌≡◌, refl, sym, ap, subst, fun_ext}
use mathlib.Core.Bool.{Bool, true, false, not, ◌||◌, ◌&&◌, false≢true}
use mathlib.Core.List.{List, [], ◌∷◌, ◌++◌, map}
use Prim.Native.Nat.{ℕ, suc, ◌+◌, ◌*◌, ◌<◌, ◌≤◌, min}
use native.Mathlib.Omega.{arith}
use native.Mathlib.Nat.{mul-le-mul_left}
use native.Mathlib.Numerals.{add-one}
use lib.Dec.{leb, ltb, eqb}
use lib.IntN.{ℤ, pos, negsuc}
use lib.ListN.{length, get_or, length-append, length-map, get_or-append}
use lib.Seq.{get_or-append_seam}
use borrow.Author.Tests.{ltb-true, ltb-false, leb-true, leb-false, eqb-true, lt-ltb, not-true}
use Rattle.paper.specs.Sizes.{first_counter, counter_start, numbers_end}
use Rattle.paper.specs.declared.Width.{Width}
use Rattle.paper.specs.Clauses.{Clause, Truth, variable, positive, clause_true, every, has_variable, variable_twice, only, from}
use Rattle.paper.specs.Counters.{tree_of}
use Rattle.paper.specs.Session.{Counter, Sheet, Work, no_counter, spread, upper_outputs, counter_gives, remaining}
use Rattle.paper.specs.Truth.{weight_on}
use Rattle.paper.specs.Steps.{core, accepted, member, least, least_from, members, core_weight, with_counter_over, relax}
use Rattle.paper.proofs.Lists.{and_split, or_split, every-mono, every-at, All, all_mono, length_from}
use Rattle.paper.proofs.Trees.{Fits, true_among, true_at_most}
use Rattle.paper.proofs.CounterTruth.{Counts, root_counts}
use Rattle.paper.proofs.Sums.{weight_add, weight_spread, true_from}
use Rattle.paper.proofs.Truths.{Faithful, Ordered}
use Rattle.paper.proofs.Given.{wishes_above, counters_above, counters_snoc, all_upper}
use Rattle.paper.proofs.Accepted.{core_taken}
use Rattle.paper.proofs.Invariant.{Balanced, Sound}

-- ── Members ──

all_members : (p : ℤ → Bool) (P : ℕ → Type 0) → ((l : ℤ) → p l ≡ true → P (variable l)) → (c : Clause) → every p c ≡ true → All P (map variable c)
all_members p P f [] e = tt
all_members p P f (l ∷ c) e = let s = and_split (p l) (every p c) e in (f l s.0, all_members p P f c s.1)

positive_variable : (l : ℤ) → positive l ≡ true → 0 < variable l
positive_variable (pos v) e = ltb-true 0 v e
positive_variable (negsuc v) e = absurd (false≢true e)

-- A true clause of positive literals has a true member.
some_true : (t : Truth) (c : Clause) → every positive c ≡ true → clause_true t c ≡ true → 0 < true_among t (map variable c)
some_true t [] p e = absurd (false≢true e)
some_true t (negsuc v ∷ c) p e = absurd (false≢true p)
some_true t (pos v ∷ c) p e = go (t v) e (some_true t c (and_split (ltb 0 v) _ p).1)
  where
    go : (b : Bool) → (b || clause_true t c) ≡ true → (clause_true t c ≡ true → 0 < true_among t (map variable c))
        → 0 < only b 1 + true_among t (map variable c)
    go true w ih = omega arith
    go false w ih = omega (arith, ih w)

least_from_at_most : (f : ℕ → ℕ) (x : ℕ) (xs : List ℕ) → All (λ y. least_from f x xs ≤ f y) (x ∷ xs)
least_from_at_most f x [] = (omega arith, tt)
least_from_at_most f x (y ∷ ys) =
    (omega arith, all_mono (λ z. least_from f y ys ≤ f z) (λ z. min (f x) (least_from f y ys) ≤ f z) (λ z h. omega arith) (y ∷ ys) (least_from_at_most f y ys))

least_at_most : (f : ℕ → ℕ) (xs : List ℕ) → All (λ y. least f xs ≤ f y) xs
least_at_most f [] = tt
least_at_most f (x ∷ xs) = least_from_at_most f x xs

-- A weight that no member has less of, taken from members that stand once each, takes no more than there is.
spread_none : (w v : ℕ) (c : Clause) → has_variable v c ≡ false → spread w (map variable c) v ≡ 0
spread_none w v [] e = refl
spread_none w v (l ∷ c) e = let s = or_split (eqb v (variable l)) (has_variable v c) e in rw (s.0, spread_none w v c s.1)

spread_fits : (f : ℕ → ℕ) (w v : ℕ) (c : Clause) → variable_twice c ≡ false → All (λ x. w ≤ f x) (map variable c) → spread w (map variable c) v ≤ f v
spread_fits f w v [] e a = omega arith
spread_fits f w v (l ∷ c) e a =
    let s = or_split (has_variable (variable l) c) (variable_twice c) e in
    go (eqb v (variable l)) refl s.0 (spread_fits f w v c s.1 a.1)
  where
    go : (b : Bool) → eqb v (variable l) ≡ b → has_variable (variable l) c ≡ false → spread w (map variable c) v ≤ f v
        → only b w + spread w (map variable c) v ≤ f v
    go false u n ih = omega arith
    go true u n ih =
        let q : v ≡ variable l = eqb-true _ _ u in
        let z : spread w (map variable c) v ≡ 0 = rw q (spread_none w (variable l) c n) in
        let k : w ≤ f v = rw q a.0 in
        omega arith

-- ── One output fewer than inputs is true among root outputs 2 to m ──

upper_several : (t : Truth) (x : ℕ) (xs : List ℕ) (start : ℕ) → 1 < length (x ∷ xs) → 0 < true_among t (x ∷ xs) → Counts t (tree_of (x ∷ xs)) start
    → true_among t (x ∷ xs) ≡ suc (true_among t (upper_outputs start (length (x ∷ xs))))
upper_several t x xs start h k f =
    let l = true_at_most t (x ∷ xs) in
    let r : (i : ℕ) → i < 1 + length xs → t (start + i) ≡ ltb i (true_among t (x ∷ xs)) = λ i g. root_counts t (x ∷ xs) start h f i (omega arith) in
    let c = rw (add-one start) at (true_from t start (true_among t (x ∷ xs)) (length xs) 1 r) in
    omega arith

upper_true : (t : Truth) (xs : List ℕ) (start : ℕ) → 0 < true_among t xs → (1 < length xs → Counts t (tree_of xs) start)
    → true_among t xs ≡ suc (true_among t (upper_outputs start (length xs)))
upper_true t [] start k f = absurd (omega arith)
upper_true t (x ∷ []) start k f = let l = true_at_most t (x ∷ []) in omega arith
upper_true t (x ∷ (y ∷ ys)) start k f = upper_several t x (y ∷ ys) start (omega arith) k (f (omega arith))

all_true : (xs : List ℕ) → true_among (λ v. true) xs ≡ length xs
all_true [] = refl
all_true (x ∷ xs) = rw (all_true xs) (omega arith)

upper_all : (start : ℕ) (xs : List ℕ) → 0 < length xs
    → true_among (λ v. true) xs ≡ suc (true_among (λ v. true) (upper_outputs start (length xs)))
upper_all start [] h = absurd (omega arith)
upper_all start (x ∷ xs) h = rw (all_true xs, all_true (from (suc start) (length xs)), length_from (suc start) (length xs)) (omega arith)

-- ── The balance ──

several : (b o c u w : ℕ) → c ≡ suc u → b + o + c * w ≡ b + w + (o + u * w)
several b o c u w e = rw e (omega arith)

single : (b o c w : ℕ) → c ≡ 1 → b + o + c * w ≡ b + w + o
single b o c w e = rw e (omega arith)

relaxed_balanced : (n stride : ℕ) (W : Work) (t : Truth) (xs : List ℕ) (w : ℕ) → Balanced n stride W t
    → All (λ x. x < n) xs → All (λ x. x < n) (upper_outputs (first_counter + stride * length W.counters) (length xs))
    → true_among t xs ≡ suc (true_among t (upper_outputs (first_counter + stride * length W.counters) (length xs)))
    → Balanced n stride (relax W xs w) t
relaxed_balanced n stride W t [] w h a u k = absurd (omega arith)
relaxed_balanced n stride W t (x ∷ []) w h a u k =
    rw (weight_add t n W.used (spread w (x ∷ [])), weight_spread t n w (x ∷ []) a, h)
    (single W.bound (weight_on t n (counter_gives stride W.counters first_counter)) _ w k)
relaxed_balanced n stride W t (x ∷ (y ∷ ys)) w h a u k =
    let new : Counter = record { inputs = x ∷ (y ∷ ys); weight = w } in
    let upper = upper_outputs (first_counter + stride * length W.counters) (length (x ∷ (y ∷ ys))) in
    rw (weight_add t n W.used (spread w (x ∷ (y ∷ ys))), weight_spread t n w (x ∷ (y ∷ ys)) a, h)
    (rw (
      ap (weight_on t n) (fun_ext (counters_snoc stride W.counters new first_counter)),
      weight_add t n (counter_gives stride W.counters first_counter) (spread w upper),
      weight_spread t n w upper u,
    )
    (several W.bound (weight_on t n (counter_gives stride W.counters first_counter)) (true_among t (x ∷ (y ∷ ys))) _ w k))

-- ── The counters after a core ──

ordered_snoc : (u : Width) (cs : List Counter) (x : Counter) (start : ℕ) → Ordered u start cs → 1 < length x.inputs
    → length x.inputs ≤ u.literals → All (λ v. 0 < v) x.inputs → All (λ v. v < start + u.stride * length cs) x.inputs
    → Ordered u start (cs ++ (x ∷ []))
ordered_snoc u [] x start o h k p q = (h, k, p, rw (none start u.stride) at q, tt)
  where
    none : (b k : ℕ) → b + k * 0 ≡ b
    none b k = omega arith
ordered_snoc u (y ∷ cs) x start o h k p q = (
  o.0,
  o.1,
  o.2,
  o.3,
  ordered_snoc u cs x (start + u.stride) o.4 h k p (subst (λ (z : ℕ). All (λ v. v < z) x.inputs) (shift start (length cs)) q),
)
  where
    shift : (b n : ℕ) → b + u.stride * suc n ≡ b + u.stride + u.stride * n
    shift b n = omega arith

module _ (xs : List ℕ) (w : ℕ) where
  new_ordered : (u : Width) (cs : List Counter) → Ordered u first_counter cs → length xs ≤ u.literals → All (λ v. 0 < v) xs
      → All (λ v. v < counter_start u (length cs)) xs → Ordered u first_counter (with_counter_over xs w cs)
  new_ordered u cs o k p q = go xs k p q
    where
      go : (ys : List ℕ) → length ys ≤ u.literals → All (λ v. 0 < v) ys → All (λ v. v < counter_start u (length cs)) ys
          → Ordered u first_counter (with_counter_over ys w cs)
      go [] k p q = o
      go (x ∷ []) k p q = o
      go (x ∷ (y ∷ ys)) k p q = ordered_snoc u cs (record { inputs = x ∷ (y ∷ ys); weight = w }) first_counter o (omega arith) k p q

  new_few : (most : ℕ) (cs : List Counter) → length cs ≤ most → (ltb 1 (length xs) && leb most (length cs)) ≡ false
      → length (with_counter_over xs w cs) ≤ most
  new_few most cs h e = go xs e
    where
      go : (ys : List ℕ) → (ltb 1 (length ys) && leb most (length cs)) ≡ false → length (with_counter_over ys w cs) ≤ most
      go [] e = h
      go (x ∷ []) e = h
      go (x ∷ (y ∷ ys)) e =
          let g : (true && leb most (length cs)) ≡ false = rw (lt-ltb 1 (length (x ∷ (y ∷ ys))) (omega arith)) at e in
          let l = leb-false most (length cs) g in
          rw (length-append cs (record { inputs = x ∷ (y ∷ ys); weight = w } ∷ [])) (omega arith)

  new_gives : (stride : ℕ) (cs : List Counter) (v : ℕ)
      → counter_gives stride cs first_counter v ≤ counter_gives stride (with_counter_over xs w cs) first_counter v
  new_gives stride cs v = go xs
    where
      go : (ys : List ℕ) → counter_gives stride cs first_counter v ≤ counter_gives stride (with_counter_over ys w cs) first_counter v
      go [] = omega arith
      go (x ∷ []) = omega arith
      go (x ∷ (y ∷ ys)) = rw (counters_snoc stride cs (record { inputs = x ∷ (y ∷ ys); weight = w }) first_counter v) (omega arith)

  -- The counters that were there are there still.
  pub new_after : (cs : List Counter) → (more : List Counter) × (with_counter_over xs w cs ≡ cs ++ more)
  new_after cs = go xs
    where
      go : (ys : List ℕ) → (more : List Counter) × (with_counter_over ys w cs ≡ cs ++ more)
      go [] = ([], sym (mathlib.Core.List.append-nil cs))
      go (x ∷ []) = ([], sym (mathlib.Core.List.append-nil cs))
      go (x ∷ (y ∷ ys)) = (record { inputs = x ∷ (y ∷ ys); weight = w } ∷ [], refl)

  new_counts : (S : Sheet) (W : Work) (t : Truth) → Faithful S (relax W xs w) t → 1 < length xs
      → Counts t (tree_of xs) (counter_start S.width (length W.counters))
  new_counts S W t f h = go xs (f.counters (length W.counters)) h
    where
      cs : List Counter
      cs = W.counters

      go : (ys : List ℕ)
          → (length cs < length (with_counter_over ys w cs)
          → Counts t (tree_of (get_or (with_counter_over ys w cs) (length cs) no_counter).inputs) (counter_start S.width (length cs)))
          → 1 < length ys → Counts t (tree_of ys) (counter_start S.width (length cs))
      go [] g h = absurd (omega arith)
      go (x ∷ []) g h = absurd (omega arith)
      go (x ∷ (y ∷ ys)) g h =
          let new : Counter = record { inputs = x ∷ (y ∷ ys); weight = w } in
          let l = length-append cs (new ∷ []) in
          rw (get_or-append_seam cs new [] no_counter) at (g (omega arith))

  upper_room : (u : Width) → Fits u → (k : ℕ) → length xs ≤ u.literals → k ≤ u.counters
      → (ltb 1 (length xs) && leb u.counters k) ≡ false → All (λ v. v < numbers_end u) (upper_outputs (counter_start u k) (length xs))
  upper_room u ft k l h e = go xs l e
    where
      go : (ys : List ℕ) → length ys ≤ u.literals → (ltb 1 (length ys) && leb u.counters k) ≡ false
          → All (λ v. v < numbers_end u) (upper_outputs (counter_start u k) (length ys))
      go [] l e = tt
      go (x ∷ []) l e = tt
      go (x ∷ (y ∷ ys)) l e =
          let g : (true && leb u.counters k) ≡ false = rw (lt-ltb 1 (length (x ∷ (y ∷ ys))) (omega arith)) at e in
          let q = leb-false u.counters k g in
          let sl = ft.slim in
          let mu = mul-le-mul_left u.stride q in
          all_upper (numbers_end u) (counter_start u k) (length (x ∷ (y ∷ ys))) (omega arith)

-- ── A core ──

-- A variable that has weight stands below the next counter.
weight_below : (S : Sheet) (W : Work) → Sound S W → (v : ℕ) → 0 < remaining S W v → v < counter_start S.width (length W.counters)
weight_below S W s v h = go (ltb v (counter_start S.width (length W.counters))) refl
  where
    go : (b : Bool) → ltb v (counter_start S.width (length W.counters)) ≡ b → v < counter_start S.width (length W.counters)
    go true e = ltb-true _ _ e
    go false e =
        let l : counter_start S.width (length W.counters) ≤ v = ltb-false _ _ e in
        let f = s.few in
        let o = counters_above S.width s.fits W.counters first_counter v s.ordered l in
        let w = wishes_above S.wishes 2001 v (omega arith) in
        absurd (omega arith)

pub faithful_before : (S : Sheet) (W : Work) (xs : List ℕ) (w : ℕ) (t : Truth) → Faithful S (relax W xs w) t → Faithful S W t
faithful_before S W xs w t f =
    let m = new_after xs w W.counters in
    let l = length-append W.counters m.0 in
    record {
      wishes = f.wishes;
      counters = λ c h.
          let k : c < length (with_counter_over xs w W.counters) = rw m.1 (omega arith) in
          rw (m.1, get_or-append W.counters m.0 no_counter c h) at (f.counters c k);
    }

pub sound_core : (S : Sheet) (W : Work) (d : ℕ) → accepted (record { sheet = S; work = W }) (core d) ≡ true → Sound S W
    → Sound S (relax W (members W d) (core_weight S W d))
sound_core S W d e s =
    let taken = core_taken (record { sheet = S; work = W }) d e in
    let c : Clause = get_or W.derived d [] in
    let form = and_split (ltb 0 (length c)) (every (member S W) c) taken.form in
    let some = ltb-true 0 (length c) form.0 in
    let long : length (map variable c) ≡ length c = length-map c variable in
    let shape = and_split (leb (length c) S.width.literals) (not (variable_twice c))
    (every-at (λ x. leb (length x) S.width.literals && not (variable_twice x)) [] W.derived s.derived_form d taken.there) in
    let short = leb-true (length c) S.width.literals shape.0 in
    let pp = every-mono (member S W) positive c (λ l h. (and_split (positive l) _ h).0) form.1 in
    let above : All (λ v. 0 < v) (members W d) = all_members positive (λ v. 0 < v) positive_variable c pp in
    let under : All (λ v. v < counter_start S.width (length W.counters)) (members W d) =
    all_members (member S W) (λ v. v < counter_start S.width (length W.counters))
    (λ l h. weight_below S W s (variable l) (ltb-true _ _ (and_split (positive l) _ h).1)) c form.1 in
    let few = s.few_counters in
    let reach = mul-le-mul_left S.width.stride s.few_counters in
    let inside : All (λ v. v < numbers_end S.width) (members W d) =
    all_mono (λ v. v < counter_start S.width (length W.counters)) (λ v. v < numbers_end S.width) (λ v h. omega arith) (members W d) under in
    let w : ℕ = core_weight S W d in
    let upper : All (λ v. v < numbers_end S.width) (upper_outputs (counter_start S.width (length W.counters)) (length (members W d))) =
    upper_room (members W d) w S.width s.fits (length W.counters) (omega arith) s.few_counters taken.room in
    record {
      fits = s.fits;
      small = s.small;
      few = s.few;
      rule_form = s.rule_form;
      wish_form = s.wish_form;
      light = s.light;
      derived_form = s.derived_form;
      derived_below = s.derived_below;
      few_counters = new_few (members W d) w S.width.counters W.counters s.few_counters taken.room;
      ordered = new_ordered (members W d) w S.width W.counters s.ordered (omega arith) above under;
      derived_true = λ t f m. s.derived_true t (faithful_before S W (members W d) w t f) m;
      within = λ v.
          let g = s.within v in
          let k = spread_fits (remaining S W) w v c (not-true _ shape.1) (least_at_most (remaining S W) (members W d)) in
          let l = new_gives (members W d) w S.width.stride W.counters v in
          omega arith;
      balanced = λ t f m.
          let f' = faithful_before S W (members W d) w t f in
          relaxed_balanced (numbers_end S.width) S.width.stride W t (members W d) w (s.balanced t f' m) inside upper
          (upper_true t (members W d) (counter_start S.width (length W.counters))
          (some_true t c pp (every-at (clause_true t) [] W.derived (s.derived_true t f' m) d taken.there))
          (new_counts (members W d) w S W t f));
      balanced_all =
          relaxed_balanced (numbers_end S.width) S.width.stride W (λ v. true) (members W d) w s.balanced_all inside upper
          (upper_all (counter_start S.width (length W.counters)) (members W d) (omega arith));
    }
