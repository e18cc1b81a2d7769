-- The search for a clause by the halves, over the numbers of its parts alone.
use mathlib.Core.Path.{◌≡◌, sym, ap, ◌∙◌}
use Prim.Native.Nat.{ℕ, ◌+◌, ◌-◌, ◌/◌, ◌<◌, ◌≤◌}
use native.Mathlib.Omega.{arith}
use lib.ListN.{length, take, drop, length-drop}
use lib.Seq.{length-take-le, take-length, take-take, drop-drop}
use Rattle.std.proofs.lemmas.List.{drop-take}
use Rattle.paper.specs.Clauses.{Clause}
use Rattle.paper.specs.Counters.{own_clauses, clause_at, variables_of, clauses_of}
use Rattle.paper.proofs.Trees.{table_rule}
use Rattle.counters.specs.Numbered.{counter_of, Found}
use Rattle.counters.specs.declared.Node.{Node}
use Rattle.counters.proofs.Halves.{left_clause, right_clause}

-- ── A part of a part ──

abbrev part : ℕ → ℕ → Clause → Clause
part from size xs = take size (drop from xs)

part_long : (from size : ℕ) (xs : Clause) → from + size ≤ length xs → length (part from size xs) ≡ size
part_long from size xs h = length-take-le size (drop from xs) (omega (arith, length-drop from xs))

-- ── One step down ──

module _ (from size : ℕ) (xs : Clause) (fits : from + size ≤ length xs) (two : 1 < size) (start number : ℕ)
    (past : own_clauses (size / 2) (size - size / 2) ≤ number) where
  long : length (part from size xs) ≡ size
  long = part_long from size xs fits

  to_left : number - own_clauses (size / 2) (size - size / 2) < clauses_of (size / 2)
      → clause_at (counter_of (part from size xs)) start number
      ≡ clause_at (counter_of (part from (size / 2) xs)) (start + size) (number - own_clauses (size / 2) (size - size / 2))
  to_left h =
      let go = rw long at (left_clause (part from size xs) (rw long two) start number (rw long past) (rw long h)) in
      go ∙ ap (λ (ys : Clause). clause_at (counter_of ys) (start + size) (number - own_clauses (size / 2) (size - size / 2)))
      (take-take (size / 2) size (drop from xs) (omega arith))

  right_part_lem : take (size - size / 2) (drop (size / 2) (part from size xs)) ≡ part (from + size / 2) (size - size / 2) xs
  right_part_lem =
      let e : size / 2 + (size - size / 2) ≡ size = omega arith in
      let cut : drop (size / 2) (part from size xs) ≡ take (size - size / 2) (drop (size / 2) (drop from xs)) =
      ap (λ k. drop (size / 2) (take k (drop from xs))) (sym e) ∙ drop-take (size / 2) (size - size / 2) (drop from xs) in
      ap (take (size - size / 2)) cut
      ∙ take-take (size - size / 2) (size - size / 2) (drop (size / 2) (drop from xs)) (omega arith)
      ∙ ap (take (size - size / 2)) (drop-drop (size / 2) from xs)

  to_right : clauses_of (size / 2) ≤ number - own_clauses (size / 2) (size - size / 2)
      → clause_at (counter_of (part from size xs)) start number
      ≡ clause_at (counter_of (part (from + size / 2) (size - size / 2) xs)) (start + size + variables_of (size / 2))
      (number - own_clauses (size / 2) (size - size / 2) - clauses_of (size / 2))
  to_right h =
      let go = rw long at (right_clause (part from size xs) (rw long two) start number (rw long past) (rw long h)) in
      go ∙ ap (λ (ys : Clause). clause_at (counter_of ys) (start + size + variables_of (size / 2))
      (number - own_clauses (size / 2) (size - size / 2) - clauses_of (size / 2))) right_part_lem

-- ── What the search finds ──

module _ (whole : Node) (two : 1 < whole.size) where
  abbrev own : ℕ
  own = own_clauses (whole.size / 2) (whole.size - whole.size / 2)

  abbrev left : Node
  left = record { from = whole.from; size = whole.size / 2; start = whole.start + whole.size; number = whole.number - own }

  abbrev right : Node
  right =
      record {
        from = whole.from + whole.size / 2;
        size = whole.size - whole.size / 2;
        start = whole.start + whole.size + variables_of (whole.size / 2);
        number = whole.number - own - clauses_of (whole.size / 2);
      }

  module _ (past : own ≤ whole.number) (node : Node) where
    pub found_left : whole.number - own < clauses_of (whole.size / 2) → Found left node → Found whole node
    found_left h k =
        let rule = (table_rule whole.size two).0 in
        record {
          fewer = omega (arith, k.fewer);
          inside = omega (arith, k.inside);
          room = omega (arith, rule, k.room);
          own = k.own;
          same = λ xs fits.
              to_left whole.from whole.size xs fits two whole.start whole.number past h ∙ k.same xs (omega (arith, fits));
        }

    pub found_right : clauses_of (whole.size / 2) ≤ whole.number - own → Found right node → Found whole node
    found_right h k =
        let rule = (table_rule whole.size two).0 in
        record {
          fewer = omega (arith, k.fewer);
          inside = omega (arith, k.inside);
          room = omega (arith, rule, k.room);
          own = k.own;
          same = λ xs fits.
              to_right whole.from whole.size xs fits two whole.start whole.number past h ∙ k.same xs (omega (arith, fits));
        }

-- ── The node of a whole counter ──

module _ (xs : Clause) (start number : ℕ) (node : Node)
    (k : Found (record { from = 0; size = length xs; start = start; number = number }) node) where
  -- Its inputs, as the code cuts them out.
  abbrev cut_out : Clause
  cut_out = take (node.from + node.size - node.from) (drop node.from xs)

  pub by_node : clause_at (counter_of xs) start number ≡ clause_at (counter_of cut_out) node.start node.number
  by_node =
      let e : node.from + node.size - node.from ≡ node.size = omega arith in
      ap (λ (ys : Clause). clause_at (counter_of ys) start number) (sym (take-length xs))
      ∙ k.same xs (omega arith)
      ∙ ap (λ n. clause_at (counter_of (take n (drop node.from xs))) node.start node.number) (sym e)
