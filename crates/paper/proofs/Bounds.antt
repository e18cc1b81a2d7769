-- Every variable that a clause can name has a number below the end of the numbers.
use mathlib.Core.Path.{◌≡◌, refl}
use mathlib.Core.Bool.{Bool, true, false, ◌||◌, ◌&&◌, false≢true}
use mathlib.Core.List.{List, [], ◌∷◌}
use Prim.Native.Nat.{ℕ, zero, suc, ◌+◌, ◌*◌, ◌-◌, ◌<◌, ◌≤◌, ◌/◌, ◌%◌}
use native.Mathlib.Nat.{div-lt_iff_lt-mul, mod-lt, div-add-mod', mul-le-mul_left}
use native.Mathlib.Omega.{arith}
use lib.Dec.{leb, ltb}
use lib.IntN.{ℤ}
use lib.ListN.{length}
use borrow.Author.Tests.{ltb-true, lt-ltb, leb-true}
use Rattle.paper.specs.Sizes.{most_variables, first_wish, wish_variable, first_counter, numbers_end}
use Rattle.paper.specs.declared.Width.{Width}
use Rattle.paper.specs.Clauses.{Clause, variable, every, pick}
use Rattle.paper.specs.Counters.{Tree, input, node, tree_of, inputs, variables, left_start, right_start, output, previous, unless, node_clause, own_clauses, clauses, clause_at}
use Rattle.paper.specs.Session.{Counter, Sheet, Work, problem_literal, named_literal, in_counters}
use Rattle.paper.proofs.Lists.{and_split, and_both}
use Rattle.paper.proofs.Trees.{Fits, variables_room}
use Rattle.paper.proofs.CounterTruth.{not_both_zero}
use Rattle.paper.proofs.Truths.{Ordered, Below}

-- The literal's variable is below n.
abbrev pub below : ℕ → ℤ → Bool
below n l = ltb (variable l) n

-- ── Named literals ──

in_counters_lem : (u : Width) → Fits u → (xs : List Counter) (start v : ℕ) → Ordered u start xs → in_counters u.stride xs start v ≡ true
    → v < start + u.stride * length xs
in_counters_lem u ft [] start v o e = absurd (false≢true e)
in_counters_lem u ft (x ∷ xs) start v o e =
    go (leb start v && ltb v (start + variables (tree_of x.inputs))) refl e (in_counters_lem u ft xs (start + u.stride) v o.4)
  where
    go : (b : Bool) → (leb start v && ltb v (start + variables (tree_of x.inputs))) ≡ b
        → (b || in_counters u.stride xs (start + u.stride) v) ≡ true
        → (in_counters u.stride xs (start + u.stride) v ≡ true → v < start + u.stride + u.stride * length xs)
        → v < start + u.stride * suc (length xs)
    go true f e ih =
        let h = ltb-true v (start + variables (tree_of x.inputs)) (and_split (leb start v) _ f).1 in
        let r = variables_room u ft x.inputs o.1 in
        omega arith
    go false f e ih = omega (arith, ih e)

-- What a derived clause may name.
pub named_below : (S : Sheet) (W : Work) → Fits S.width → S.variables ≤ most_variables → length S.wishes ≤ most_variables
    → length W.counters ≤ S.width.counters → Ordered S.width first_counter W.counters
    → (l : ℤ) → named_literal S W l ≡ true → below (numbers_end S.width) l ≡ true
named_below S W ft small few few_counters o l e =
    lt-ltb _ _ (go (problem_literal S.variables l) refl (leb first_wish (variable l) && ltb (variable l) (wish_variable (length S.wishes))) refl e)
  where
    go : (a : Bool) → problem_literal S.variables l ≡ a
        → (b : Bool) → (leb first_wish (variable l) && ltb (variable l) (wish_variable (length S.wishes))) ≡ b
        → (a || (b || in_counters S.width.stride W.counters first_counter (variable l))) ≡ true → variable l < numbers_end S.width
    go true f b g e = let h = leb-true (variable l) S.variables (and_split (leb 1 (variable l)) _ f).1 in omega arith
    go false f true g e =
        let h = ltb-true (variable l) (wish_variable (length S.wishes)) (and_split (leb first_wish (variable l)) _ g).1 in
        omega arith
    go false f false g e =
        let h = in_counters_lem S.width ft W.counters first_counter (variable l) o e in
        let k = mul-le-mul_left S.width.stride few_counters in
        omega arith

-- ── The clauses of a counter ──

module _ (n : ℕ) (some : 1 < n) where
  negated : (v : ℕ) → v < n → suc (previous v) < n
  negated zero h = some
  negated (suc v) h = h

  unless_below : (out : ℕ → ℕ) (s k : ℕ) (rest : Clause) → ((j : ℕ) → j < s → out j < n) → k ≤ s → every (below n) rest ≡ true
      → every (below n) (unless out k rest) ≡ true
  unless_below out s zero rest f h e = e
  unless_below out s (suc k) rest f h e = and_both _ _ (lt-ltb _ _ (negated (out k) (f k h))) e

  output_below : (x : Tree) (start : ℕ) → Below n x → start + variables x ≤ n → (k : ℕ) → k < inputs x → output x start k < n
  output_below (input v) start b h k l = b
  output_below (node x y) start b h k l = omega arith

  node_below : (l r : Tree) (start a b : ℕ) → Below n (node l r) → start + variables (node l r) ≤ n → a ≤ inputs l → b ≤ inputs r → 0 < a + b
      → every (below n) (node_clause l r start a b) ≡ true
  node_below l r start a b bl h ha hb hs =
      unless_below (output l (left_start l r start)) (inputs l) a _ (output_below l (left_start l r start) bl.0 (omega arith)) ha
      (unless_below (output r (right_start l r start)) (inputs r) b _ (output_below r (right_start l r start) bl.1 (omega arith)) hb
      (and_both _ _ (lt-ltb _ _ (last (a + b) hs (omega arith))) refl))
    where
      last : (c : ℕ) → 0 < c → c ≤ inputs l + inputs r → start + previous c < n
      last zero p q = absurd (omega arith)
      last (suc c) p q = omega arith

  pub clause_below : (x : Tree) (start i : ℕ) → Below n x → start + variables x ≤ n → every (below n) (clause_at x start i) ≡ true
  clause_below (input v) start i b h = refl
  clause_below (node l r) start i b h =
      go (ltb i own) refl (ltb (i - own) (clauses l))
      (clause_below l (left_start l r start) (i - own) b.0 (omega arith))
      (clause_below r (right_start l r start) (i - own - clauses l) b.1 (omega arith))
    where
      own : ℕ
      own = own_clauses (inputs l) (inputs r)

      go : (x : Bool) → ltb i own ≡ x → (y : Bool)
          → every (below n) (clause_at l (left_start l r start) (i - own)) ≡ true
          → every (below n) (clause_at r (right_start l r start) (i - own - clauses l)) ≡ true
          → every (below n) (pick x (node_clause l r start (suc i / suc (inputs r)) (suc i % suc (inputs r)))
          (pick y (clause_at l (left_start l r start) (i - own)) (clause_at r (right_start l r start) (i - own - clauses l)))) ≡ true
      go true u y il ir =
          let hi : i < own = ltb-true _ _ u in
          let hd : suc i / suc (inputs r) < suc (inputs l)
          = (div-lt_iff_lt-mul {k = suc (inputs r)} {x = suc i} {y = suc (inputs l)} (omega arith)).1 (omega arith) in
          let hm : suc i % suc (inputs r) < suc (inputs r) = mod-lt (suc i) (omega arith) in
          let hs : 0 < suc i / suc (inputs r) + suc i % suc (inputs r)
          = not_both_zero (suc i / suc (inputs r)) _ (suc (inputs r)) i (div-add-mod' (suc i) (suc (inputs r))) in
          node_below l r start (suc i / suc (inputs r)) (suc i % suc (inputs r)) b h (omega arith) (omega arith) hs
      go false u true il ir = il
      go false u false il ir = ir
