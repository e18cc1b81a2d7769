-- The tree over a list: its inputs are the list's, and its shape depends on the list's length alone.
use mathlib.Core.Path.{◌≡◌, refl, sym, ap₂, subst}
use mathlib.Core.Bool.{Bool, true, false, ◌&&◌}
use mathlib.Core.List.{List, [], ◌∷◌, ◌++◌}
use mathlib.Core.Logic.{◌≢◌}
use Prim.Native.Nat.{ℕ, zero, suc, ◌+◌, ◌-◌, ◌<◌, ◌≤◌, ◌/◌, min}
use native.Mathlib.Omega.{arith}
use lib.Dec.{leb, ltb, eqb}
use lib.ListN.{length, take, drop, get_or, take-append-drop, length-take, length-drop, length-append}
use borrow.Author.Tests.{ltb-true, ltb-false, lt-ltb, le-ltb, leb-true, eqb-true, eqb-false}
use Rattle.paper.specs.Sizes.{narrow}
use Rattle.paper.specs.declared.Width.{Width}
use Rattle.paper.specs.Clauses.{Truth, from, only}
use Rattle.paper.specs.Counters.{Tree, input, node, halved, tree_of, inputs, variables, clauses, own_clauses, variables_of, clauses_of}
use Rattle.paper.specs.Truth.{true_inputs}
use Rattle.paper.specs.Promises.{Halves, ByInputs, TableRule}
use Rattle.paper.proofs.Lists.{and_split, length_from}

halved_node : (f : ℕ) (xs : List ℕ) → 1 < length xs
    → halved (suc f) xs ≡ node (halved f (take (length xs / 2) xs)) (halved f (drop (length xs / 2) xs))
halved_node f xs h = rw (lt-ltb 1 (length xs) h, halved)

halved_input : (f : ℕ) (xs : List ℕ) → length xs ≤ 1 → halved (suc f) xs ≡ input (get_or xs 0 0)
halved_input f xs h = rw (le-ltb 1 (length xs) h, halved)

-- The lengths of the two halves of a list.
module _ (xs : List ℕ) where
  left-length : length (take (length xs / 2) xs) ≡ length xs / 2
  left-length = let a : length (take (length xs / 2) xs) ≡ min (length xs / 2) (length xs) = length-take _ xs in omega arith

  right_length : length (drop (length xs / 2) xs) ≡ length xs - length xs / 2
  right_length = length-drop _ xs

-- ── A property that goes through the halving holds of the whole ──

module _ (P : List ℕ → Tree → Type 0)
    (single : (x : ℕ) → P (x ∷ []) (input x))
    (both : (xs ys : List ℕ) (l r : Tree) → 0 < length xs → 0 < length ys → P xs l → P ys r → P (xs ++ ys) (node l r)) where
  one : (xs : List ℕ) → 0 < length xs → length xs ≤ 1 → P xs (input (get_or xs 0 0))
  one [] h k = absurd (omega arith)
  one (x ∷ []) h k = single x
  one (x ∷ (y ∷ ys)) h k = absurd (omega arith)

  by_halves : (f : ℕ) (xs : List ℕ) → 0 < length xs → length xs ≤ suc f → P xs (halved f xs)
  by_halves zero xs h k = one xs h k
  by_halves (suc f) xs h k =
      go (ltb 1 (length xs)) refl (by_halves f (take (length xs / 2) xs)) (by_halves f (drop (length xs / 2) xs))
    where
      Below : List ℕ → Type 0
      Below ys = 0 < length ys → length ys ≤ suc f → P ys (halved f ys)

      go : (b : Bool) → ltb 1 (length xs) ≡ b → Below (take (length xs / 2) xs) → Below (drop (length xs / 2) xs) → P xs (halved (suc f) xs)
      go false u il ir = let g : length xs ≤ 1 = ltb-false _ _ u in rw (halved_input f xs g) (one xs h g)
      go true u il ir =
          let g : 1 < length xs = ltb-true _ _ u in
          let a = left-length xs in
          let d = right_length xs in
          rw (halved_node f xs g)
          (rw (take-append-drop (length xs / 2) xs) at (both (take (length xs / 2) xs) (drop (length xs / 2) xs) _ _ (omega arith) (omega arith)
          (il (omega arith) (omega arith)) (ir (omega arith) (omega arith))))

  pub of_tree : (xs : List ℕ) → 0 < length xs → P xs (tree_of xs)
  of_tree xs h = by_halves (length xs) xs h (omega arith)

pub tree_inputs : (xs : List ℕ) → 0 < length xs → inputs (tree_of xs) ≡ length xs
tree_inputs = of_tree (λ ys x. inputs x ≡ length ys) (λ x. refl) (λ ys zs l r hy hz p q. rw (length-append ys zs, p, q))

-- ── True inputs ──

-- How many variables of a list are true.
abbrev pub true_among : Truth → List ℕ → ℕ
true_among t [] = 0
true_among t (x ∷ xs) = only (t x) 1 + true_among t xs

true_append : (t : Truth) (xs ys : List ℕ) → true_among t (xs ++ ys) ≡ true_among t xs + true_among t ys
true_append t [] ys = omega arith
true_append t (x ∷ xs) ys = rw (true_append t xs ys) (omega arith)

pub tree_true : (t : Truth) (xs : List ℕ) → 0 < length xs → true_inputs t (tree_of xs) ≡ true_among t xs
tree_true t =
    of_tree (λ ys x. true_inputs t x ≡ true_among t ys) (λ x. omega arith) (λ ys zs l r hy hz p q. rw (true_append t ys zs, p, q))

pub true_at_most : (t : Truth) (xs : List ℕ) → true_among t xs ≤ length xs
true_at_most t [] = omega arith
true_at_most t (x ∷ xs) = go (t x) (true_at_most t xs)
  where
    go : (b : Bool) → true_among t xs ≤ length xs → only b 1 + true_among t xs ≤ suc (length xs)
    go true h = omega arith
    go false h = omega arith

-- ── The halving rule ──

-- The bound on the depth does not matter once it is large enough.
depth_free : (f g : ℕ) (xs : List ℕ) → 0 < length xs → length xs ≤ suc f → length xs ≤ suc g → halved f xs ≡ halved g xs
depth_free zero zero xs p h k = refl
depth_free zero (suc g) xs p h k = sym (halved_input g xs h)
depth_free (suc f) zero xs p h k = halved_input f xs k
depth_free (suc f) (suc g) xs p h k =
    go (ltb 1 (length xs)) refl (depth_free f g (take (length xs / 2) xs)) (depth_free f g (drop (length xs / 2) xs))
  where
    Same : List ℕ → Type 0
    Same ys = 0 < length ys → length ys ≤ suc f → length ys ≤ suc g → halved f ys ≡ halved g ys

    go : (b : Bool) → ltb 1 (length xs) ≡ b → Same (take (length xs / 2) xs) → Same (drop (length xs / 2) xs)
        → halved (suc f) xs ≡ halved (suc g) xs
    go false u il ir = let l : length xs ≤ 1 = ltb-false _ _ u in rw (halved_input f xs l, halved_input g xs l)
    go true u il ir =
        let l : 1 < length xs = ltb-true _ _ u in
        let a = left-length xs in
        let d = right_length xs in
        rw (halved_node f xs l, halved_node g xs l, il (omega arith) (omega arith) (omega arith), ir (omega arith) (omega arith) (omega arith))

pub halves : Halves
halves [] h = absurd (omega arith)
halves (x ∷ xs) h =
    let ys = x ∷ xs in
    let a = left-length (x ∷ xs) in
    let d = right_length (x ∷ xs) in
    rw (
      halved_node (length xs) ys h,
      depth_free (length xs) (length (take (length ys / 2) ys)) (take (length ys / 2) ys) (omega arith) (omega arith) (omega arith),
      depth_free (length xs) (length (drop (length ys / 2) ys)) (drop (length ys / 2) ys) (omega arith) (omega arith) (omega arith),
    )

-- ── The shape depends on the length alone ──

abbrev Alike : Tree → Tree → Type 0
Alike (input v) (input w) = Unit {0}
Alike (input v) (node l r) = ⊥
Alike (node l r) (input v) = ⊥
Alike (node l r) (node l' r') = Alike l l' × Alike r r'

alike : (f : ℕ) (xs ys : List ℕ) → length xs ≡ length ys → Alike (halved f xs) (halved f ys)
alike zero xs ys e = tt
alike (suc f) xs ys e = go (ltb 1 (length xs)) refl (alike f)
  where
    go : (b : Bool) → ltb 1 (length xs) ≡ b → ((us vs : List ℕ) → length us ≡ length vs → Alike (halved f us) (halved f vs))
        → Alike (halved (suc f) xs) (halved (suc f) ys)
    go false u ih = let l : length xs ≤ 1 = ltb-false _ _ u in rw (halved_input f xs l, halved_input f ys (omega arith)) tt
    go true u ih =
        let l : 1 < length xs = ltb-true _ _ u in
        rw (halved_node f xs l, halved_node f ys (omega arith))
        (ih _ _ (rw (left-length xs, left-length ys, e)), ih _ _ (rw (right_length xs, right_length ys, e)))

alike_counts : (x y : Tree) → Alike x y → (inputs x ≡ inputs y) × (variables x ≡ variables y) × (clauses x ≡ clauses y)
alike_counts (input v) (input w) a = (refl, refl, refl)
alike_counts (input v) (node l r) a = absurd a
alike_counts (node l r) (input v) a = absurd a
alike_counts (node l r) (node l' r') a =
    let p = alike_counts l l' a.0 in
    let q = alike_counts r r' a.1 in
    (ap₂ ◌+◌ p.0 q.0, rw (p.0, p.1, q.0, q.1), rw (p.0, p.2, q.0, q.2))

pub by_inputs : ByInputs
by_inputs xs =
    let e : length xs ≡ length (from 1 (length xs)) = sym (length_from 1 (length xs)) in
    let r = alike_counts (tree_of xs) (tree_of (from 1 (length xs))) (rw (← e) (alike (length xs) xs (from 1 (length xs)) e)) in
    (r.1, r.2)

-- ── The tables' rule ──

by_two : (xs : List ℕ) → 1 < length xs
    → (variables (tree_of xs) ≡ length xs + (variables_of (length xs / 2) + variables_of (length xs - length xs / 2)))
    × (clauses (tree_of xs)
    ≡ own_clauses (length xs / 2) (length xs - length xs / 2) + (clauses_of (length xs / 2) + clauses_of (length xs - length xs / 2)))
by_two xs h =
    let l = left-length xs in
    let r = right_length xs in
    let p = by_inputs (take (length xs / 2) xs) in
    let q = by_inputs (drop (length xs / 2) xs) in
    let sl = tree_inputs (take (length xs / 2) xs) (omega arith) in
    let sr = tree_inputs (drop (length xs / 2) xs) (omega arith) in
    rw (halves xs h, p.0, q.0, p.1, q.1, sl, sr, l, r) (omega arith, refl)

pub table_rule : TableRule
table_rule m h =
    subst (λ (k : ℕ). (variables_of m ≡ k + (variables_of (k / 2) + variables_of (k - k / 2)))
    × (clauses_of m ≡ own_clauses (k / 2) (k - k / 2) + (clauses_of (k / 2) + clauses_of (k - k / 2)))) (length_from 1 m)
    (by_two (from 1 m) (rw (length_from 1 m) h))

-- ── The counters of a width have room ──

abbrev all_below : (ℕ → Bool) → ℕ → Bool
all_below p zero = true
all_below p (suc n) = p n && all_below p n

below : (p : ℕ → Bool) (n : ℕ) → all_below p n ≡ true → (m : ℕ) → m < n → p m ≡ true
below p zero e m h = absurd (omega arith)
below p (suc n) e m h = go (eqb m n) refl (and_split (p n) (all_below p n) e) (below p n)
  where
    go : (b : Bool) → eqb m n ≡ b → (p n ≡ true) × (all_below p n ≡ true) → (all_below p n ≡ true → (m : ℕ) → m < n → p m ≡ true) → p m ≡ true
    go true u s ih = rw (eqb-true m n u) s.0
    go false u s ih = let d : m ≢ n = eqb-false _ _ u in ih s.1 m (omega arith)

-- Every counter of this width has room for its variables, by a test that is computed for each number of inputs.
pub record Fits (u : Width) : Type 0 where
  pub room : all_below (λ m. leb (variables_of m) u.stride) (suc u.literals) ≡ true
  pub slim : u.literals ≤ u.stride

pub narrow_fits : Fits narrow
narrow_fits = record { room = refl; slim = omega arith }

pub variables_room : (u : Width) → Fits u → (xs : List ℕ) → length xs ≤ u.literals → variables (tree_of xs) ≤ u.stride
variables_room u f xs h =
    rw (by_inputs xs).0
    (leb-true _ _ (below (λ m. leb (variables_of m) u.stride) (suc u.literals) f.room (length xs) (omega arith)))
