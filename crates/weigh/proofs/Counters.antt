-- One counter as it is weighed: the truths of its inputs, how many are true, and the weight on its root outputs that are true.
use mathlib.Core.Path.{◌≡◌, refl, sym, ap, ◌∙◌}
use mathlib.Core.Bool.{true}
use mathlib.Core.List.{List, [], ◌∷◌, map}
use Prim.Native.Nat.{ℕ, suc, ◌+◌, ◌-◌, ◌*◌, ◌<◌, ◌≤◌, min}
use native.Mathlib.Omega.{arith}
use lib.Dec.{ltb}
use lib.IntN.{ℤ, pos}
use lib.ListN.{length, get_or, set, length-map, get_or-map}
use borrow.Author.Tests.{lt-ltb, le-ltb}
use Rattle.paper.specs.Sizes.{first_wish, wish_variable, first_counter, counter_start}
use Rattle.paper.specs.declared.Width.{Width}
use Rattle.paper.specs.Clauses.{Clause, Truth, variable, only}
use Rattle.paper.specs.Session.{Session, no_counter}
use Rattle.paper.proofs.Trees.{true_at_most}
use Rattle.paper.proofs.Costs.{reached_sound}
use Rattle.paper.proofs.Reach.{reached_narrow}
use Rattle.clauses.specs.Family.{Holds}
use Rattle.truths.specs.Truths.{true_bytes}
use Rattle.truths.proofs.Ones.{at_most, true_among_lem}
use Rattle.weights.specs.Weights.{output_table}
use Rattle.weights.proofs.Places.{quotient, remainder}
use Rattle.rooms.specs.Held.{counter_room, inputs_of}
use Rattle.weigh.specs.Weighing.{output_sum}
use Rattle.weigh.specs.Marks.{Marked, inputs_at, count_mark, truth_in, input_truth, OverCounters}
use Rattle.weigh.proofs.Inputs.{StandsOn, on_wish, on_output, inputs_stand, input_count, output_truth}
use Rattle.weigh.proofs.ByPlace.{first_outputs}
use Rattle.weigh.proofs.Marks.{marked_more}

-- The inputs stand in their room as positive literals.
same_truths : (g h : ℕ → ℕ) (xs : List ℕ) → ((i : ℕ) → i < length xs → g (get_or xs i 0) ≡ h (get_or xs i 0))
    → map (λ l. g (variable l)) (map pos xs) ≡ map h xs
same_truths g h [] e = refl
same_truths g h (x ∷ xs) e = rw (e 0 (omega arith), same_truths g h xs (λ i k. e (suc i) (omega arith)))

-- A count of true inputs fits a byte.
pub few_true : (g : ℤ → ℕ) (xs : List ℤ) (n : ℕ) → n ≡ true_bytes (map g xs) → n ≤ length xs
few_true g xs n e = omega (arith, at_most (map g xs), length-map xs g)

module _ {s : Session} {a t : Truth} {f : ℕ → ℕ} {u : Width} {size count : ℕ} {inputs : List ℤ} {ends outputs broken : List ℕ}
    (W : OverCounters s a t f u size count inputs ends outputs broken) where
  pub counted : Holds (counter_room s.sheet.width).literals (counter_room s.sheet.width).clauses inputs ends count
      (map inputs_of s.work.counters)
  counted = rw (W.count_is, ← length-map s.work.counters inputs_of) W.held

  -- The one place that asks which width it is: a counter's inputs fit a byte.
  in_byte : s.sheet.width.literals ≤ 255
  in_byte = rw (reached_narrow s W.reached) (omega arith)

  short : (c : ℕ) → c < count → length (inputs_at s c) ≤ s.sheet.width.literals
  short c h =
      let k = W.count_is in
      (input_count s W.reached c (omega arith)).1

  output_true_lem : (c : ℕ) → c < count → (k : ℕ) → k < length (inputs_at s c)
      → t (counter_start s.sheet.width c + k) ≡ ltb k (count_mark s t c)
  output_true_lem c h = let there = W.count_is in rw W.truth_is (output_truth s W.reached a c (omega arith))

  -- The inputs of counter `number`, where the true inputs of the counters before it are counted.
  module _ (number : ℕ) (h : number < count) {counts : List ℕ} (M : Marked size counts number (count_mark s t)) where
    input_true : (v : ℕ) → StandsOn s.sheet.width (length s.sheet.wishes) s.work.counters number v
        → truth_in s.sheet.width broken counts v ≡ only (t v) 1
    input_true v (on_wish j there is) =
        let few = (reached_sound s W.reached).few in
        let place : wish_variable j - first_wish ≡ j = omega arith in
        rw (
          is,
          lt-ltb (wish_variable j) first_counter (omega arith),
          le-ltb (wish_variable j) first_wish (omega arith),
          place,
        ) (W.marked.marks j there)
    input_true v (on_output c k before within is) =
        let u' = s.sheet.width in
        let small = short c (omega arith) in
        let fits = (reached_sound s W.reached).fits.slim in
        let slim : k < u'.stride = omega arith in
        let place : counter_start u' c + k - first_counter ≡ u'.stride * c + k = omega arith in
        rw (
          is,
          le-ltb (counter_start u' c + k) first_counter (omega arith),
          place,
          quotient u'.stride c k slim,
          remainder u'.stride c k slim,
          M.marks c before,
          output_true_lem c (omega arith) k within,
        )

    module _ (clause : Clause) (is : clause ≡ get_or (map inputs_of s.work.counters) number []) (n : ℕ)
        (read : length clause ≤ 255 → n ≡ true_bytes (map (input_truth u broken counts) clause)) where
      pub counts_true : n ≡ count_mark s t number
      counts_true =
          let there = W.count_is in
          let inputs_are : clause ≡ map pos (inputs_at s number) =
          is ∙ get_or-map inputs_of s.work.counters number no_counter in
          let long = ap length inputs_are ∙ length-map (inputs_at s number) pos in
          let few = short number h in
          let byte = in_byte in
          let truths =
          same_truths (truth_in s.sheet.width broken counts) (λ v. only (t v) 1) (inputs_at s number)
          (λ i k. input_true (get_or (inputs_at s number) i 0) (inputs_stand s W.reached number (omega arith) i k)) in
          read (omega arith)
          ∙ true_among_lem t (inputs_at s number) (map (input_truth u broken counts) clause) (rw (inputs_are, W.width_is) truths)

      pub counter_marked : (room : List ℕ) → room ≡ set counts number n → Marked size room (number + 1) (count_mark s t)
      counter_marked room e = let enough = W.enough in rw e (marked_more M n (omega arith) counts_true)

      pub outputs_weigh : (r : ℕ)
          → ((g : ℕ → ℕ) → outputs ≡ output_table u g → number < u.counters → n ≤ u.literals
          → r ≡ output_sum (λ v. true) g (counter_start u number) n)
          → r ≡ output_sum t f (counter_start u number) (length (inputs_at s number))
      outputs_weigh r e =
          let there = W.count_is in
          let some = true_at_most t (inputs_at s number) in
          let all = counts_true in
          let few = short number h in
          let fits = counted.few in
          let same = counted.count_is in
          let literals = ap (λ (x : Width). x.literals) W.width_is in
          let counters = ap (λ (x : Width). x.counters) W.width_is in
          let least : min n (length (inputs_at s number)) ≡ n = omega arith in
          let first =
          first_outputs t f (counter_start u number) n (length (inputs_at s number))
          (λ k q. rw (counts_true, W.width_is) (output_true_lem number h k q)) in
          e f W.outputs_are (omega arith) (omega arith) ∙ sym (rw least at first)
