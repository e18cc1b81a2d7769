-- The truth of every variable under an arrangement is what the description says of it: wish variables are true where their wish
-- is broken, and every counter counts.
use mathlib.Core.Path.{◌≡◌, refl, ◌∙◌, ap, ap₂, subst}
use mathlib.Core.Bool.{true, not, ◌||◌, ◌&&◌}
use mathlib.Core.List.{List, [], ◌∷◌}
use Prim.Native.Nat.{ℕ, zero, suc, ◌+◌, ◌*◌, ◌-◌, ◌<◌, ◌≤◌}
use native.Mathlib.Omega.{arith}
use native.Mathlib.Nat.{add_assoc, add-zero}
use lib.Dec.{leb, ltb}
use lib.IntN.{ℤ, pos, negsuc}
use lib.ListN.{length, get_or}
use borrow.Author.Tests.{lt-ltb, le-ltb, leb-true, le-leb, lt-leb, eq-eqb, ne_eqb}
use Rattle.paper.specs.Sizes.{first_wish, wish_variable, first_counter, counter_start, most_variables}
use Rattle.paper.specs.declared.Width.{Width}
use Rattle.paper.specs.Clauses.{Clause, Truth, variable, literal_true, clause_true, every, pick}
use Rattle.paper.specs.Counters.{Tree, input, node, tree_of, inputs, variables, left_start, right_start}
use Rattle.paper.specs.Session.{Wish, Counter, Sheet, Work, no_wish, no_counter, problem_literal}
use Rattle.paper.specs.Truth.{true_inputs, output_true, with_counter, with_counters, wish_true, truth, cost_of}
use Rattle.paper.proofs.Lists.{and_split, every-at, All, all_split}
use Rattle.paper.proofs.Trees.{of_tree, variables_room, Fits}
use Rattle.paper.proofs.CounterTruth.{Counts}

-- t is a truth of every variable that the session names.
pub record Faithful (S : Sheet) (W : Work) (t : Truth) : Type 0 where
  pub wishes : (j : ℕ) → j < length S.wishes → t (wish_variable j) ≡ not (clause_true t (get_or S.wishes j no_wish).literals)
  pub counters : (c : ℕ) → c < length W.counters → Counts t (tree_of (get_or W.counters c no_counter).inputs) (counter_start S.width c)

-- Each counter has two inputs or more, and stands over variables that were there before it; `start` is the first one's.
abbrev pub Ordered : Width → ℕ → List Counter → Type 0
Ordered u start [] = Unit {0}
Ordered u start (x ∷ xs) =
    (1 < length x.inputs) × (length x.inputs ≤ u.literals)
    × All (λ v. 0 < v) x.inputs × All (λ v. v < start) x.inputs × Ordered u (start + u.stride) xs

-- ── One counter ──

abbrev pub Below : ℕ → Tree → Type 0
Below n (input v) = v < n
Below n (node l r) = Below n l × Below n r

pub tree_below : (n : ℕ) (xs : List ℕ) → 0 < length xs → All (λ v. v < n) xs → Below n (tree_of xs)
tree_below n =
    of_tree (λ ys x. All (λ v. v < n) ys → Below n x) (λ x a. a.0)
    (λ ys zs l r hy hz p q a. let s = all_split (λ v. v < n) ys zs a in (p s.0, q s.1))

module _ (t u : Truth) (n : ℕ) (f : (v : ℕ) → v < n → u v ≡ t v) where
  inputs_agree : (x : Tree) → Below n x → true_inputs u x ≡ true_inputs t x
  inputs_agree (input v) h = rw (f v h)
  inputs_agree (node l r) h = ap₂ ◌+◌ (inputs_agree l h.0) (inputs_agree r h.1)

  counts : (x : Tree) (start : ℕ) → Below n x → ((i : ℕ) → i < variables x → u (start + i) ≡ output_true t x i) → Counts u x start
  counts (input v) start h g = tt
  counts (node l r) start h g = (
    λ k hk. rw (g k (omega arith), lt-ltb k (inputs l + inputs r) hk, inputs_agree l h.0, inputs_agree r h.1),
    counts l (left_start l r start) h.0
        (λ i hi. rw (
          add_assoc start (inputs l + inputs r) i,
          g (inputs l + inputs r + i) (omega arith),
          le-ltb (inputs l + inputs r + i) (inputs l + inputs r) (omega arith),
          back (inputs l + inputs r) i,
          lt-ltb i (variables l) hi,
        )),
    counts r (right_start l r start) h.1
        (λ i hi. rw (
          past start (inputs l + inputs r) (variables l) i,
          g (inputs l + inputs r + (variables l + i)) (omega arith),
          le-ltb (inputs l + inputs r + (variables l + i)) (inputs l + inputs r) (omega arith),
          back (inputs l + inputs r) (variables l + i),
          le-ltb (variables l + i) (variables l) (omega arith),
          back (variables l) i,
        )),
  )
    where
      back : (a i : ℕ) → a + i - a ≡ i
      back a i = omega arith

      past : (b s p i : ℕ) → b + s + p + i ≡ b + (s + (p + i))
      past b s p i = omega arith

-- ── All counters ──

unchanged : (stride : ℕ) (xs : List Counter) (t : Truth) (start v : ℕ) → v < start → with_counters stride t start xs v ≡ t v
unchanged stride [] t start v h = refl
unchanged stride (x ∷ xs) t start v h =
    rw (unchanged stride xs (with_counter t start (tree_of x.inputs)) (start + stride) v (omega arith), lt-leb start v h)

in_counter_lem : (t : Truth) (start : ℕ) (x : Tree) (i : ℕ) → i < variables x → with_counter t start x (start + i) ≡ output_true t x i
in_counter_lem t start x i h = rw (le-leb start (start + i) (omega arith), lt-ltb (start + i) (start + variables x) (omega arith), back start i)
  where
    back : (a i : ℕ) → a + i - a ≡ i
    back a i = omega arith

all_count : (u : Width) → Fits u → (xs : List Counter) (t : Truth) (start : ℕ) → Ordered u start xs → (c : ℕ) → c < length xs
    → Counts (with_counters u.stride t start xs) (tree_of (get_or xs c no_counter).inputs) (start + u.stride * c)
all_count u ft [] t start o c h = absurd (omega arith)
all_count u ft (y ∷ xs) t start o zero h =
    let r = variables_room u ft y.inputs o.1 in
    rw (none start u.stride)
    (counts t (with_counters u.stride t start (y ∷ xs)) start (λ v k. unchanged u.stride (y ∷ xs) t start v k)
    (tree_of y.inputs) start (tree_below start y.inputs (omega arith) o.3)
    (λ i k. unchanged u.stride xs (with_counter t start (tree_of y.inputs)) (start + u.stride) (start + i) (omega arith)
    ∙ in_counter_lem t start (tree_of y.inputs) i k))
  where
    none : (b k : ℕ) → b + k * 0 ≡ b
    none b k = omega arith
all_count u ft (y ∷ xs) t start o (suc c) h =
    subst (λ (z : ℕ). Counts (with_counters u.stride t start (y ∷ xs)) (tree_of (get_or xs c no_counter).inputs) z) (shift start c)
    (all_count u ft xs (with_counter t start (tree_of y.inputs)) (start + u.stride) o.4 c (omega arith))
  where
    shift : (b c : ℕ) → b + u.stride + u.stride * c ≡ b + u.stride * suc c
    shift b c = omega arith

-- ── Wishes ──

wish_at : (a : Truth) (xs : List Wish) (v₀ j : ℕ) → j < length xs → wish_true a xs v₀ (v₀ + j) ≡ not (clause_true a (get_or xs j no_wish).literals)
wish_at a [] v₀ j h = absurd (omega arith)
wish_at a (y ∷ xs) v₀ zero h = rw (add-zero v₀, eq-eqb v₀ v₀ refl)
wish_at a (y ∷ xs) v₀ (suc j) h = rw (ne_eqb (v₀ + suc j) v₀ (λ z. omega arith), shift v₀ j) (wish_at a xs (suc v₀) j (omega arith))
  where
    shift : (b j : ℕ) → b + suc j ≡ suc b + j
    shift b j = omega arith

-- ── A clause of problem variables reads the arrangement only ──

module _ (n : ℕ) (t u : Truth) (f : (v : ℕ) → v ≤ n → u v ≡ t v) where
  literal_same : (l : ℤ) → variable l ≤ n → literal_true u l ≡ literal_true t l
  literal_same (pos v) h = f v h
  literal_same (negsuc v) h = ap not (f (suc v) h)

  pub clause_same : (c : Clause) → every (problem_literal n) c ≡ true → clause_true u c ≡ clause_true t c
  clause_same [] e = refl
  clause_same (l ∷ c) e =
      let s = and_split (problem_literal n l) _ e in
      let k = leb-true (variable l) n (and_split (leb 1 (variable l)) _ s.0).1 in
      ap₂ ◌||◌ (literal_same l k) (clause_same c s.1)

  pub clauses_same : (cs : List Clause) → every (every (problem_literal n)) cs ≡ true → every (clause_true u) cs ≡ every (clause_true t) cs
  clauses_same [] e = refl
  clauses_same (c ∷ cs) e =
      let s = and_split (every (problem_literal n) c) _ e in
      ap₂ ◌&&◌ (clause_same c s.0) (clauses_same cs s.1)

  pub cost_same : (xs : List Wish) → every (λ (x : Wish). every (problem_literal n) x.literals) xs ≡ true → cost_of u xs ≡ cost_of t xs
  cost_same [] e = refl
  cost_same (x ∷ xs) e =
      let s = and_split (every (problem_literal n) x.literals) _ e in
      rw (clause_same x.literals s.0, cost_same xs s.1)

-- ── The truth of an arrangement ──

module _ (S : Sheet) (W : Work) (a : Truth) (small : S.variables ≤ most_variables) where
  pub truth_problem : (v : ℕ) → v ≤ S.variables → truth S W a v ≡ a v
  truth_problem v h = unchanged S.width.stride W.counters _ first_counter v (omega arith) ∙ rw (lt-ltb v first_wish (omega arith))

  pub truth_faithful : length S.wishes ≤ most_variables → every (λ (x : Wish). every (problem_literal S.variables) x.literals) S.wishes ≡ true
      → Fits S.width → Ordered S.width first_counter W.counters → Faithful S W (truth S W a)
  truth_faithful few form fits ordered = record {
    wishes = λ j h.
        rw (clause_same S.variables a (truth S W a) truth_problem (get_or S.wishes j no_wish).literals
        (every-at (λ (x : Wish). every (problem_literal S.variables) x.literals) no_wish S.wishes form j h))
        (unchanged S.width.stride W.counters (λ v. pick (ltb v first_wish) (a v) (wish_true a S.wishes first_wish v)) first_counter
        (wish_variable j) (omega arith)
        ∙ rw (le-ltb (wish_variable j) first_wish (omega arith)) (wish_at a S.wishes first_wish j h));
    counters = λ c h. all_count S.width fits W.counters _ first_counter ordered c h;
  }
