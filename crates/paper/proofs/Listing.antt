-- The clauses of a counter in their listed order are its clauses by number.
use mathlib.Core.Path.{◌≡◌, refl, sym, ◌∙◌, ap}
use mathlib.Core.Bool.{Bool, true, false}
use mathlib.Core.List.{List, [], ◌++◌}
use Prim.Native.Nat.{ℕ, zero, suc, ◌+◌, ◌*◌, ◌-◌, ◌<◌, ◌≤◌, ◌/◌, ◌%◌}
use native.Mathlib.Nat.{div-eq_of_lt, mod-eq_of_lt, div-eq-sub-div, mod-eq-sub-mod, add-zero}
use native.Mathlib.Omega.{arith}
use lib.Dec.{ltb}
use lib.ListN.{length, get_or, length-append, get_or-append}
use borrow.Author.Tests.{ltb-true, ltb-false}
use Rattle.paper.specs.Clauses.{Clause, pick}
use Rattle.paper.specs.Counters.{Tree, input, node, inputs, left_start, right_start, node_clause, row, rows, node_clauses, all_clauses, own_clauses, clauses, clause_at}
use Rattle.paper.specs.Promises.{Listed}
use Rattle.paper.proofs.Lists.{getD-right}

module _ (l r : Tree) (start : ℕ) where
  row-length : (a b n : ℕ) → length (row l r start a b n) ≡ n
  row-length a b zero = refl
  row-length a b (suc n) = ap suc (row-length a (suc b) n)

  row_at : (a b n i : ℕ) → i < n → get_or (row l r start a b n) i [] ≡ node_clause l r start a (b + i)
  row_at a b zero i h = absurd (omega arith)
  row_at a b (suc n) zero h = ap (node_clause l r start a) (sym (add-zero b))
  row_at a b (suc n) (suc i) h =
      let e : suc b + i ≡ b + suc i = omega arith in
      row_at a (suc b) n i (omega arith) ∙ ap (node_clause l r start a) e

  same : (a b a' b' : ℕ) → a ≡ a' → b ≡ b' → node_clause l r start a b ≡ node_clause l r start a' b'
  same a b a' b' p q = rw (p, q)

  rows-length : (a n : ℕ) → length (rows l r start a n) ≡ n * suc (inputs r)
  rows-length a zero = omega arith
  rows-length a (suc n) =
      rw (length-append (row l r start a 0 (suc (inputs r))) (rows l r start (suc a) n), row-length a 0 (suc (inputs r)), rows-length (suc a) n)
      (omega arith)

  rows_at : (a n i : ℕ) → i < n * suc (inputs r)
      → get_or (rows l r start a n) i [] ≡ node_clause l r start (a + i / suc (inputs r)) (i % suc (inputs r))
  rows_at a zero i h = absurd (omega arith)
  rows_at a (suc n) i h = go (ltb i (suc (inputs r))) refl (rows_at (suc a) n (i - suc (inputs r)))
    where
      go : (x : Bool) → ltb i (suc (inputs r)) ≡ x
          → (i - suc (inputs r) < n * suc (inputs r)
          → get_or (rows l r start (suc a) n) (i - suc (inputs r)) []
          ≡ node_clause l r start (suc a + (i - suc (inputs r)) / suc (inputs r)) ((i - suc (inputs r)) % suc (inputs r)))
          → get_or (rows l r start a (suc n)) i [] ≡ node_clause l r start (a + i / suc (inputs r)) (i % suc (inputs r))
      go true u ih =
          let k : i < suc (inputs r) = ltb-true _ _ u in
          get_or-append (row l r start a 0 (suc (inputs r))) (rows l r start (suc a) n) [] i (rw (row-length a 0 (suc (inputs r))) k)
          ∙ row_at a 0 (suc (inputs r)) i k
          ∙ same a (0 + i) (a + i / suc (inputs r)) (i % suc (inputs r)) (rw (div-eq_of_lt k) (omega arith)) (rw (mod-eq_of_lt k) (omega arith))
      go false u ih =
          let k : suc (inputs r) ≤ i = ltb-false _ _ u in
          let q = div-eq-sub-div {m = suc (inputs r)} {n = i} (omega arith) k in
          let e = row-length a 0 (suc (inputs r)) in
          getD-right (row l r start a 0 (suc (inputs r))) (rows l r start (suc a) n) i [] (omega arith)
          ∙ ap (λ z. get_or (rows l r start (suc a) n) (i - z) []) e
          ∙ ih (omega arith)
          ∙ same (suc a + (i - suc (inputs r)) / suc (inputs r)) ((i - suc (inputs r)) % suc (inputs r)) (a + i / suc (inputs r))
          (i % suc (inputs r)) (omega arith) (sym (mod-eq-sub-mod k))

  own-length : length (node_clauses l r start) ≡ own_clauses (inputs l) (inputs r)
  own-length =
      rw (length-append (row l r start 0 1 (inputs r)) (rows l r start 1 (inputs l)), row-length 0 1 (inputs r), rows-length 1 (inputs l))
      (omega arith)

  -- A node's own clauses are the rows from a = 0 on, without their first.
  own_at : (i : ℕ) → i < own_clauses (inputs l) (inputs r)
      → get_or (node_clauses l r start) i [] ≡ node_clause l r start (suc i / suc (inputs r)) (suc i % suc (inputs r))
  own_at i h =
      rows_at 0 (suc (inputs l)) (suc i) (omega arith)
      ∙ same (0 + suc i / suc (inputs r)) (suc i % suc (inputs r)) (suc i / suc (inputs r)) (suc i % suc (inputs r)) (omega arith) refl

listed-length : (x : Tree) (start : ℕ) → length (all_clauses x start) ≡ clauses x
listed-length (input v) start = refl
listed-length (node l r) start =
    rw (
      length-append (node_clauses l r start) (all_clauses l (left_start l r start) ++ all_clauses r (right_start l r start)),
      length-append (all_clauses l (left_start l r start)) (all_clauses r (right_start l r start)),
      own-length l r start,
      listed-length l (left_start l r start),
      listed-length r (right_start l r start),
    )

listed_at : (x : Tree) (start i : ℕ) → get_or (all_clauses x start) i [] ≡ clause_at x start i
listed_at (input v) start i = refl
listed_at (node l r) start i =
    go (ltb i own) refl (ltb (i - own) (clauses l)) refl (listed_at l left (i - own)) (listed_at r right (i - own - clauses l))
  where
    own : ℕ
    own = own_clauses (inputs l) (inputs r)

    left : ℕ
    left = left_start l r start

    right : ℕ
    right = right_start l r start

    rest : List Clause
    rest = all_clauses l left ++ all_clauses r right

    own_long : length (node_clauses l r start) ≡ own
    own_long = own-length l r start

    left_long : length (all_clauses l left) ≡ clauses l
    left_long = listed-length l left

    go : (x : Bool) → ltb i own ≡ x → (y : Bool) → ltb (i - own) (clauses l) ≡ y
        → get_or (all_clauses l left) (i - own) [] ≡ clause_at l left (i - own)
        → get_or (all_clauses r right) (i - own - clauses l) [] ≡ clause_at r right (i - own - clauses l)
        → get_or (node_clauses l r start ++ rest) i []
        ≡ pick x (node_clause l r start (suc i / suc (inputs r)) (suc i % suc (inputs r)))
        (pick y (clause_at l left (i - own)) (clause_at r right (i - own - clauses l)))
    go true u y v il ir =
        let h : i < own = ltb-true _ _ u in
        get_or-append (node_clauses l r start) rest [] i (omega (arith, own_long)) ∙ own_at l r start i h
    go false u true v il ir =
        let h : own ≤ i = ltb-false _ _ u in
        let k : i - own < clauses l = ltb-true _ _ v in
        getD-right (node_clauses l r start) rest i [] (omega (arith, own_long))
        ∙ ap (λ z. get_or rest (i - z) []) own_long
        ∙ get_or-append (all_clauses l left) (all_clauses r right) [] (i - own) (omega (arith, left_long)) ∙ il
    go false u false v il ir =
        let h : own ≤ i = ltb-false _ _ u in
        let k : clauses l ≤ i - own = ltb-false _ _ v in
        getD-right (node_clauses l r start) rest i [] (omega (arith, own_long))
        ∙ ap (λ z. get_or rest (i - z) []) own_long
        ∙ getD-right (all_clauses l left) (all_clauses r right) (i - own) [] (omega (arith, left_long))
        ∙ ap (λ z. get_or (all_clauses r right) (i - own - z) []) left_long ∙ ir

pub listed : Listed
listed x start = (listed-length x start, listed_at x start)
