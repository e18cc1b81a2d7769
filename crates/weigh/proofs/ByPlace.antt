-- The remaining weight on true variables is its sum by place, and a counter's share is that of its first outputs, as many as
-- its inputs are true.
use mathlib.Core.Path.{◌≡◌, refl, ◌∙◌, ap}
use mathlib.Core.Bool.{Bool, true, false}
use mathlib.Core.List.{List, [], ◌∷◌}
use Prim.Native.Nat.{ℕ, zero, suc, ◌+◌, ◌-◌, ◌*◌, ◌<◌, ◌≤◌, min}
use native.Mathlib.Nat.{add-zero, add-suc, mul-le-mul_left, min-zero}
use native.Mathlib.Omega.{arith}
use lib.Dec.{ltb}
use lib.ListN.{length, get_or}
use borrow.Author.Tests.{ltb-true, ltb-false}
use Rattle.paper.specs.Sizes.{first_wish, wish_variable, first_counter, counter_start, numbers_end}
use Rattle.paper.specs.declared.Width.{Width}
use Rattle.paper.specs.Clauses.{Truth, only}
use Rattle.paper.specs.Session.{Counter, Session, no_counter, counter_gives, remaining}
use Rattle.paper.specs.Truth.{sum_below, weight_on}
use Rattle.paper.specs.Runs.{Reached}
use Rattle.paper.proofs.Trees.{Fits}
use Rattle.paper.proofs.Sums.{weight_zero}
use Rattle.paper.proofs.Truths.{Ordered}
use Rattle.paper.proofs.Given.{wishes_below, wishes_above, counters_below}
use Rattle.paper.proofs.Costs.{reached_sound}
use Rattle.weights.proofs.Spreads.{upper_past}
use Rattle.weights.proofs.Remaining.{output_free}
use Rattle.weigh.specs.Weighing.{wish_sum, output_sum, counter_sum}
use Rattle.weigh.proofs.Inputs.{input_count}

-- ── Sums over ranges ──

only_zero : (b : Bool) → only b 0 ≡ 0
only_zero true = refl
only_zero false = refl

module _ (t : Truth) (f : ℕ → ℕ) where
  -- Of n variables from `start` on, only the first m have weight.
  range_sum : (start m n : ℕ) → m ≤ n → ((k : ℕ) → m ≤ k → k < n → f (start + k) ≡ 0)
      → weight_on t (start + n) f ≡ weight_on t start f + output_sum t f start m
  unfolding sum_below output_sum
  range_sum start m zero h none = let is : m ≡ 0 = omega arith in rw (is, add-zero start) (omega arith)
  range_sum start m (suc n) h none =
      rw (add-suc start n)
      (go (ltb n m) refl (range_sum start n n (omega arith) (λ k low high. absurd (omega arith))) (range_sum start m n))
    where
      Ends : ℕ → ℕ → Type 0
      Ends n m = weight_on t (start + n) f ≡ weight_on t start f + output_sum t f start m

      go : (b : Bool) → ltb n m ≡ b → Ends n n → (m ≤ n → ((k : ℕ) → m ≤ k → k < n → f (start + k) ≡ 0) → Ends n m)
          → weight_on t (suc (start + n)) f ≡ weight_on t start f + output_sum t f start m
      go true e full ih =
          let within = ltb-true n m e in
          let is : m ≡ suc n = omega arith in
          rw (is, full) (omega arith)
      go false e full ih =
          let past = ltb-false n m e in
          let before = ih past (λ k low high. none k low (omega arith)) in
          rw (before, none n past (omega arith), only_zero (t (start + n))) (omega arith)

  wish_outputs : (n : ℕ) → wish_sum t f n ≡ output_sum t f first_wish n
  unfolding wish_sum output_sum
  wish_outputs zero = refl
  wish_outputs (suc n) = rw (wish_outputs n)

  -- In each counter's stride, only the outputs of its root have weight.
  counters-sum : (u : Width) (xs : List Counter) (n : ℕ)
      → ((c : ℕ) → c < n → length (get_or xs c no_counter).inputs ≤ u.stride)
      → ((c k : ℕ) → c < n → length (get_or xs c no_counter).inputs ≤ k → k < u.stride → f (counter_start u c + k) ≡ 0)
      → weight_on t (counter_start u n) f ≡ weight_on t first_counter f + counter_sum u xs t f n
  unfolding counter_sum
  counters-sum u xs zero fits none =
      let first : counter_start u 0 ≡ first_counter = omega arith in
      ap (λ k. weight_on t k f) first ∙ omega arith
  counters-sum u xs (suc n) fits none =
      let before = counters-sum u xs n (λ c h. fits c (omega arith)) (λ c k h. none c k (omega arith)) in
      let m = length (get_or xs n no_counter).inputs in
      let own = range_sum (counter_start u n) m u.stride (fits n (omega arith)) (λ k. none n k (omega arith)) in
      let next : counter_start u (suc n) ≡ counter_start u n + u.stride = omega arith in
      ap (λ k. weight_on t k f) next ∙ own ∙ omega arith

-- ── The whole sum ──

-- A counter gives nothing past the outputs of its root.
inner_none : (u : Width) → Fits u → (xs : List Counter) (start : ℕ) → Ordered u start xs → (v c k : ℕ)
    → v ≡ start + u.stride * c + k → c < length xs → length (get_or xs c no_counter).inputs ≤ k → k < u.stride
    → counter_gives u.stride xs start v ≡ 0
inner_none u fits [] start o v c k is h past within = refl
inner_none u fits (x ∷ xs) start o v zero k is h past within =
    rw (
      upper_past x.weight start (length x.inputs) v (omega arith),
      counters_below u.stride xs (start + u.stride) v (omega arith),
    )
inner_none u fits (x ∷ xs) start o v (suc c) k is h past within =
    let short = o.1 in
    let slim = fits.slim in
    rw (
      upper_past x.weight start (length x.inputs) v (omega arith),
      inner_none u fits xs (start + u.stride) o.4 v c k (omega arith) (omega arith) past within,
    )

module _ (s : Session) (r : Reached s) where
  -- Before the wishes, between them and the counters, and in a counter past its root: no weight.
  low_none : (v : ℕ) → v < first_wish → remaining s.sheet s.work v ≡ 0
  low_none v h =
      omega (
        arith,
        wishes_below s.sheet.wishes first_wish v h,
        counters_below s.sheet.width.stride s.work.counters first_counter v (omega arith),
      )

  wishes_none : (j : ℕ) → length s.sheet.wishes ≤ j → j < first_counter - first_wish
      → remaining s.sheet s.work (wish_variable j) ≡ 0
  wishes_none j h k =
      omega (
        arith,
        wishes_above s.sheet.wishes first_wish (wish_variable j) (omega arith),
        counters_below s.sheet.width.stride s.work.counters first_counter (wish_variable j) (omega arith),
      )

  outputs_none : (c k : ℕ) → c < length s.work.counters → length (get_or s.work.counters c no_counter).inputs ≤ k
      → k < s.sheet.width.stride → remaining s.sheet s.work (counter_start s.sheet.width c + k) ≡ 0
  outputs_none c k h past within =
      let sound = reached_sound s r in
      let few = sound.few in
      omega (
        arith,
        wishes_above s.sheet.wishes first_wish (counter_start s.sheet.width c + k) (omega arith),
        inner_none s.sheet.width sound.fits s.work.counters first_counter sound.ordered
            (counter_start s.sheet.width c + k) c k refl h past within,
      )

  pub sum_by_place : (t : Truth)
      → weight_on t (numbers_end s.sheet.width) (remaining s.sheet s.work)
      ≡ wish_sum t (remaining s.sheet s.work) (length s.sheet.wishes)
      + counter_sum s.sheet.width s.work.counters t (remaining s.sheet s.work) (length s.work.counters)
  unfolding output_sum
  sum_by_place t =
      let u = s.sheet.width in
      let cs = s.work.counters in
      let f = remaining s.sheet s.work in
      let sound = reached_sound s r in
      let few = sound.few in
      let slim = sound.fits.slim in
      let reach = mul-le-mul_left u.stride sound.few_counters in
      let rest = u.stride * u.counters - u.stride * length cs in
      let end : numbers_end u ≡ counter_start u (length cs) + rest = omega arith in
      let none = weight_zero t first_wish f low_none in
      let wishes = range_sum t f first_wish (length s.sheet.wishes) (first_counter - first_wish) (omega arith) wishes_none in
      let outputs = counters-sum t f u cs (length cs) (λ c h. omega (arith, (input_count s r c h).1)) outputs_none in
      let past = range_sum t f (counter_start u (length cs)) 0 rest (omega arith) (λ k low high. output_free s r k) in
      ap (λ n. weight_on t n f) end ∙ omega (arith, wish_outputs t f (length s.sheet.wishes))

-- ── A counter's share ──

-- Where exactly the first n outputs of a root are true.
pub first_outputs : (t : Truth) (f : ℕ → ℕ) (start n m : ℕ) → ((k : ℕ) → k < m → t (start + k) ≡ ltb k n)
    → output_sum t f start m ≡ output_sum (λ v. true) f start (min n m)
unfolding output_sum
first_outputs t f start n zero counts = rw (min-zero n)
first_outputs t f start n (suc m) counts =
    rw (counts m (omega arith)) (go (ltb m n) refl (first_outputs t f start n m (λ k h. counts k (omega arith))))
  where
    go : (b : Bool) → ltb m n ≡ b → output_sum t f start m ≡ output_sum (λ v. true) f start (min n m)
        → output_sum t f start m + only b (f (start + m)) ≡ output_sum (λ v. true) f start (min n (suc m))
    go true e ih =
        let low = ltb-true m n e in
        let now : min n m ≡ m = omega arith in
        let then : min n (suc m) ≡ suc m = omega arith in
        rw (ih, now, then)
    go false e ih =
        let past = ltb-false m n e in
        let same : min n (suc m) ≡ min n m = omega arith in
        rw (ih, same) (omega arith)
