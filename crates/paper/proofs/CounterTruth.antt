-- Every clause of a counter is true where its outputs count its inputs: once over the tree.
use mathlib.Core.Path.{◌≡◌, refl}
use mathlib.Core.Bool.{Bool, true, false, not, ◌||◌}
use mathlib.Core.List.{List}
use Prim.Native.Nat.{ℕ, zero, suc, ◌+◌, ◌*◌, ◌-◌, ◌<◌, ◌≤◌, ◌/◌, ◌%◌}
use native.Mathlib.Nat.{div-lt_iff_lt-mul, mod-lt, div-add-mod'}
use native.Mathlib.Omega.{arith}
use lib.Dec.{ltb}
use lib.ListN.{length}
use borrow.Author.Tests.{ltb-true, ltb-false, lt-ltb}
use Rattle.paper.specs.Clauses.{Clause, Truth, clause_true, only, pick}
use Rattle.paper.specs.Counters.{Tree, input, node, tree_of, inputs, left_start, right_start, output, previous, unless, sum_clause, node_clause, own_clauses, clauses, clause_at}
use Rattle.paper.specs.Truth.{true_inputs}
use Rattle.paper.proofs.Lists.{All, all_split}
use Rattle.paper.proofs.Trees.{of_tree, tree_inputs, tree_true, true_among}

-- Output k + 1 of every node is true exactly when more than k of its inputs are.
abbrev pub Counts : Truth → Tree → ℕ → Type 0
Counts t (input v) start = Unit {0}
Counts t (node l r) start =
    ((k : ℕ) → k < inputs l + inputs r → t (start + k) ≡ ltb k (true_inputs t l + true_inputs t r))
    × Counts t l (left_start l r start) × Counts t r (right_start l r start)

-- No input is number 0, so that each can be negated.
abbrev pub Positive : Tree → Type 0
Positive (input v) = 0 < v
Positive (node l r) = Positive l × Positive r

pub tree_positive : (xs : List ℕ) → 0 < length xs → All (λ v. 0 < v) xs → Positive (tree_of xs)
tree_positive =
    of_tree (λ ys x. All (λ v. 0 < v) ys → Positive x) (λ x a. a.0)
    (λ ys zs l r hy hz p q a. let s = all_split (λ v. 0 < v) ys zs a in (p s.0, q s.1))

-- A counter's root outputs count its inputs.
root : (t : Truth) (x : Tree) (start : ℕ) → Counts t x start → 1 < inputs x → (k : ℕ) → k < inputs x → t (start + k) ≡ ltb k (true_inputs t x)
root t (input v) start f h k l = absurd (omega arith)
root t (node x y) start f h k l = f.0 k l

pub root_counts : (t : Truth) (xs : List ℕ) (start : ℕ) → 1 < length xs → Counts t (tree_of xs) start
    → (k : ℕ) → k < length xs → t (start + k) ≡ ltb k (true_among t xs)
root_counts t xs start h f k l =
    let s = tree_inputs xs (omega arith) in
    rw (← tree_true t xs (omega arith)) (root t (tree_of xs) start f (omega arith) k (omega arith))

suc_previous : (n : ℕ) → 0 < n → suc (previous n) ≡ n
suc_previous zero h = omega arith
suc_previous (suc n) h = refl

pub not_both_zero : (a b q n : ℕ) → a * q + b ≡ suc n → 0 < a + b
not_both_zero zero b q n e = omega arith
not_both_zero (suc a) b q n e = omega arith

module _ (t : Truth) where
  -- The numbers that `out` gives are outputs of a part with s inputs, n of them true.
  abbrev Outputs : (ℕ → ℕ) → ℕ → ℕ → Type 0
  Outputs out s n = (k : ℕ) → k < s → (0 < out k) × (t (out k) ≡ ltb k n)

  not_or : (x rest : Bool) → (x ≡ true → rest ≡ true) → (not x || rest) ≡ true
  not_or true rest f = f refl
  not_or false rest f = refl

  unless_true : (out : ℕ → ℕ) (s n k : ℕ) (rest : Clause) → Outputs out s n → k ≤ s
      → (k ≤ n → clause_true t rest ≡ true) → clause_true t (unless out k rest) ≡ true
  unless_true out s n zero rest f h g = g (omega arith)
  unless_true out s n (suc k) rest f h g =
      rw (suc_previous (out k) (f k h).0, (f k h).1) (not_or (ltb k n) (clause_true t rest) (λ e. g (ltb-true k n e)))

  -- One clause, over any three runs of outputs.
  pub sum_true : (left right own : ℕ → ℕ) (p q n m : ℕ) → Outputs left p n → Outputs right q m → Outputs own (p + q) (n + m)
      → (a b : ℕ) → a ≤ p → b ≤ q → 0 < a + b → clause_true t (sum_clause left right own a b) ≡ true
  sum_true left right own p q n m hl hr ho a b ha hb hs =
      unless_true left p n a _ hl ha (λ la. unless_true right q m b _ hr hb
      (λ lb. let e : suc (previous (a + b)) ≡ a + b = suc_previous (a + b) hs in
      rw ((ho (previous (a + b)) (omega arith)).1, lt-ltb (previous (a + b)) (n + m) (omega arith))))

  one_true : (x : Bool) → x ≡ ltb 0 (only x 1)
  one_true true = refl
  one_true false = refl

  tree_outputs : (x : Tree) (start : ℕ) → Counts t x start → Positive x → 0 < start → Outputs (output x start) (inputs x) (true_inputs t x)
  tree_outputs (input v) start f p h zero l = (p, one_true (t v))
  tree_outputs (input v) start f p h (suc k) l = absurd (omega arith)
  tree_outputs (node x y) start f p h k l = (omega arith, f.0 k l)

  node_true : (l r : Tree) (start a b : ℕ) → Counts t (node l r) start → Positive (node l r) → 0 < start
      → a ≤ inputs l → b ≤ inputs r → 0 < a + b → clause_true t (node_clause l r start a b) ≡ true
  node_true l r start a b f p h =
      sum_true (output l (left_start l r start)) (output r (right_start l r start)) (λ k. start + k)
      (inputs l) (inputs r) (true_inputs t l) (true_inputs t r)
      (tree_outputs l (left_start l r start) f.1 p.0 (omega arith))
      (tree_outputs r (right_start l r start) f.2 p.1 (omega arith))
      (λ k g. (omega arith, f.0 k g)) a b

  pub clause_true_lem : (x : Tree) (start i : ℕ) → Counts t x start → Positive x → 0 < start → i < clauses x → clause_true t (clause_at x start i) ≡ true
  clause_true_lem (input v) start i f p h k = absurd (omega arith)
  clause_true_lem (node l r) start i f p h k =
      go (ltb i own) refl (ltb (i - own) (clauses l)) refl
      (clause_true_lem l (left_start l r start) (i - own) f.1 p.0 (omega arith))
      (clause_true_lem r (right_start l r start) (i - own - clauses l) f.2 p.1 (omega arith))
    where
      own : ℕ
      own = own_clauses (inputs l) (inputs r)

      go : (x : Bool) → ltb i own ≡ x → (y : Bool) → ltb (i - own) (clauses l) ≡ y
          → (i - own < clauses l → clause_true t (clause_at l (left_start l r start) (i - own)) ≡ true)
          → (i - own - clauses l < clauses r → clause_true t (clause_at r (right_start l r start) (i - own - clauses l)) ≡ true)
          → clause_true t (pick x (node_clause l r start (suc i / suc (inputs r)) (suc i % suc (inputs r)))
          (pick y (clause_at l (left_start l r start) (i - own)) (clause_at r (right_start l r start) (i - own - clauses l)))) ≡ true
      go true u y v il ir =
          let hi : i < own = ltb-true _ _ u in
          let hd : suc i / suc (inputs r) < suc (inputs l)
          = (div-lt_iff_lt-mul {k = suc (inputs r)} {x = suc i} {y = suc (inputs l)} (omega arith)).1 (omega arith) in
          let hm : suc i % suc (inputs r) < suc (inputs r) = mod-lt (suc i) (omega arith) in
          let hs : 0 < suc i / suc (inputs r) + suc i % suc (inputs r)
          = not_both_zero (suc i / suc (inputs r)) _ (suc (inputs r)) i (div-add-mod' (suc i) (suc (inputs r))) in
          node_true l r start (suc i / suc (inputs r)) (suc i % suc (inputs r)) f p h (omega arith) (omega arith) hs
      go false u true v il ir = il (ltb-true _ _ v)
      go false u false v il ir =
          let hi : own ≤ i = ltb-false _ _ u in
          let hj : clauses l ≤ i - own = ltb-false _ _ v in
          ir (omega arith)
