-- A counter is its halves under a node, so a clause of it is the node's own, the left part's or the right part's.
use mathlib.Core.Path.{◌≡◌, refl, ap, ◌∙◌}
use mathlib.Core.List.{[], ◌∷◌, map}
use Prim.Native.Nat.{ℕ, zero, suc, ◌+◌, ◌-◌, ◌/◌, ◌%◌, ◌<◌, ◌≤◌}
use native.Mathlib.Nat.{div-lt_iff_lt-mul, mod-lt, mul-le-mul}
use native.Mathlib.Numerals.{add-one}
use native.Mathlib.Omega.{arith}
use lib.Dec.{ltb}
use lib.IntN.{pos}
use lib.ListN.{length, take, drop, get_or, length-drop, length-map}
use lib.Seq.{take_all, length-take-le}
use borrow.Author.Tests.{lt-ltb, le-ltb}
use Rattle.std.proofs.lemmas.List.{take-map, drop-map}
use Rattle.paper.specs.Sizes.{narrow}
use Rattle.paper.specs.Clauses.{Clause, variable, pick, from}
use Rattle.paper.specs.Counters.{Tree, input, node, inputs, variables, clauses, variables_of, clauses_of}
use Rattle.paper.specs.Counters.{output, sum_clause, own_clauses, clause_at}
use Rattle.paper.proofs.Lists.{length_from}
use Rattle.paper.proofs.Trees.{halves, tree_inputs, by_inputs, variables_room, narrow_fits}
use Rattle.counters.specs.Numbered.{counter_of}

-- ── The parts ──

abbrev pub half : Clause → ℕ
half xs = length xs / 2

abbrev pub others : Clause → ℕ
others xs = length xs - length xs / 2

-- How many clauses are the top node's own.
abbrev own : Clause → ℕ
own xs = own_clauses (half xs) (others xs)

abbrev left_part : Clause → Clause
left_part xs = take (half xs) xs

-- As the code takes it: up to the end.
abbrev right_part : Clause → Clause
right_part xs = take (others xs) (drop (half xs) xs)

pub left-length : (xs : Clause) → length (left_part xs) ≡ half xs
left-length xs = length-take-le (half xs) xs (omega arith)

pub right_length : (xs : Clause) → length (right_part xs) ≡ others xs
right_length xs = length-take-le _ _ (omega (arith, length-drop (half xs) xs))

to_end : (xs : Clause) → right_part xs ≡ drop (half xs) xs
to_end xs = take_all (others xs) (drop (half xs) xs) (omega (arith, length-drop (half xs) xs))

-- A part's sizes depend on the number of its inputs alone.
sizes : (xs : Clause) (n : ℕ) → length xs ≡ n → 0 < n
    → (inputs (counter_of xs) ≡ n) × (variables (counter_of xs) ≡ variables_of n) × (clauses (counter_of xs) ≡ clauses_of n)
unfolding counter_of
sizes xs n e h =
    let m : length (map variable xs) ≡ n = length-map xs variable ∙ e in
    let t = by_inputs (map variable xs) in
    (tree_inputs (map variable xs) (omega arith) ∙ m, t.0 ∙ ap variables_of m, t.1 ∙ ap clauses_of m)

pub variables_few : (n : ℕ) → n ≤ 64 → variables_of n ≤ 384
variables_few n h = variables_room narrow narrow_fits (from 1 n) (rw (length_from 1 n) h)

-- ── Runs of outputs ──

output_run : (x : Tree) (start k : ℕ) → k < inputs x → output x start k ≡ output x start 0 + k
output_run (input v) start k h = omega arith
output_run (node l r) start k h = omega arith

-- A sum's clause goes by the first numbers of the two parts' outputs.
sum_run : (l r : Tree) (s t : ℕ) (sum : ℕ → ℕ) (a b : ℕ) → a ≤ inputs l → b ≤ inputs r
    → sum_clause (output l s) (output r t) sum a b ≡ sum_clause (λ k. output l s 0 + k) (λ k. output r t 0 + k) sum a b
sum_run l r s t sum zero zero h k = refl
sum_run l r s t sum zero (suc b) h k = rw (output_run r t b k)
sum_run l r s t sum (suc a) zero h k = rw (output_run l s a h)
sum_run l r s t sum (suc a) (suc b) h k = rw (output_run l s a h, output_run r t b k)

-- The counts of left and right outputs that a node's clause names.
pub within : (p q i : ℕ) → i < own_clauses p q → ((i + 1) / (q + 1) ≤ p) × ((i + 1) % (q + 1) ≤ q)
within p q i h =
    let d : (i + 1) / (q + 1) < p + 1 = (div-lt_iff_lt-mul {k = q + 1} {x = i + 1} {y = p + 1} (omega arith)).1 (omega arith) in
    let m : (i + 1) % (q + 1) < q + 1 = mod-lt (i + 1) (omega arith) in
    (omega arith, omega arith)

pub own_small : (p q : ℕ) → p ≤ 64 → q ≤ 64 → own_clauses p q ≤ 4224
own_small p q h k = omega (arith, mul-le-mul h k)

-- ── The clauses ──

pub first_single : (xs : Clause) (start : ℕ) → length xs ≡ 1 → variable (get_or xs 0 (pos 0)) ≡ output (counter_of xs) start 0
unfolding counter_of
first_single [] start h = absurd (omega arith)
first_single (x ∷ []) start h = refl
first_single (x ∷ (y ∷ xs)) start h = absurd (omega arith)

pub clause_single : (xs : Clause) (start number : ℕ) → length xs < 2 → clause_at (counter_of xs) start number ≡ []
unfolding counter_of
clause_single [] start number h = refl
clause_single (x ∷ []) start number h = refl
clause_single (x ∷ (y ∷ xs)) start number h = absurd (omega arith)

abbrev left : Clause → Tree
left xs = counter_of (left_part xs)

abbrev right : Clause → Tree
right xs = counter_of (right_part xs)

abbrev left_from : Clause → ℕ → ℕ
left_from xs start = start + length xs

abbrev right_from : Clause → ℕ → ℕ
right_from xs start = start + length xs + variables_of (half xs)

module _ (xs : Clause) (two : 1 < length xs) where
  split : counter_of xs ≡ node (left xs) (right xs)
  unfolding counter_of
  split =
      halves (map variable xs) (rw (length-map xs variable) two)
      ∙ rw (length-map xs variable, take-map variable (half xs) xs, drop-map variable (half xs) xs, to_end xs)

  pub first_many : (start : ℕ) → start ≡ output (counter_of xs) start 0
  first_many start = rw split (omega arith)

  left_sizes : (inputs (left xs) ≡ half xs) × (variables (left xs) ≡ variables_of (half xs))
      × (clauses (left xs) ≡ clauses_of (half xs))
  left_sizes = sizes (left_part xs) (half xs) (left-length xs) (omega arith)

  right_inputs : inputs (right xs) ≡ others xs
  right_inputs = (sizes (right_part xs) (others xs) (right_length xs) (omega arith)).0

  both : half xs + others xs ≡ length xs
  both = omega arith

  module _ (start number : ℕ) where
    by_parts : clause_at (counter_of xs) start number
        ≡ pick (ltb number (own xs))
        (sum_clause (output (left xs) (left_from xs start)) (output (right xs) (right_from xs start)) (λ k. start + k)
        (suc number / suc (others xs)) (suc number % suc (others xs)))
        (pick (ltb (number - own xs) (clauses_of (half xs))) (clause_at (left xs) (left_from xs start) (number - own xs))
        (clause_at (right xs) (right_from xs start) (number - own xs - clauses_of (half xs))))
    by_parts = rw (split, left_sizes.0, right_inputs, left_sizes.1, left_sizes.2, both)

    pub left_clause : own xs ≤ number → number - own xs < clauses_of (half xs)
        → clause_at (counter_of xs) start number ≡ clause_at (left xs) (left_from xs start) (number - own xs)
    left_clause h k = by_parts ∙ simp (le-ltb _ _ h, lt-ltb _ _ k)

    pub right_clause : own xs ≤ number → clauses_of (half xs) ≤ number - own xs
        → clause_at (counter_of xs) start number ≡ clause_at (right xs) (right_from xs start) (number - own xs - clauses_of (half xs))
    right_clause h k = by_parts ∙ simp (le-ltb _ _ h, le-ltb _ _ k)

    -- The node's own clauses go by the first numbers of the two parts' outputs.
    pub own_clause : (first second : ℕ) → first ≡ output (left xs) (left_from xs start) 0
        → second ≡ output (right xs) (right_from xs start) 0 → number < own xs
        → clause_at (counter_of xs) start number
        ≡ sum_clause (λ k. first + k) (λ k. second + k) (λ k. start + k)
        ((number + 1) / (others xs + 1)) ((number + 1) % (others xs + 1))
    own_clause first second e f h =
        let counts = within (half xs) (others xs) number h in
        by_parts ∙ simp (lt-ltb _ _ h)
        (rw (← add-one number, ← add-one (others xs), e, f)
        (sum_run (left xs) (right xs) (left_from xs start) (right_from xs start) (λ k. start + k)
        ((number + 1) / (others xs + 1)) ((number + 1) % (others xs + 1))
        (rw left_sizes.0 counts.0) (rw right_inputs counts.1)))
