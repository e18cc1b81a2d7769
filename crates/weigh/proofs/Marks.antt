-- A work room while it is marked place by place.
use mathlib.Core.Path.{◌≡◌, refl, ap, ◌∙◌}
use mathlib.Core.List.{List}
use Prim.Native.Nat.{ℕ, zero, suc, ◌+◌, ◌<◌}
use native.Mathlib.Omega.{arith}
use lib.ListN.{length, get_or, set, replicate, length-set, length-replicate}
use lib.Seq.{get_or-set_same, get_or-set_other}
use borrow.Author.Count.{below_more}
use Rattle.weigh.specs.Marks.{Marked}

zero_at : (n i : ℕ) → ◌≡◌ {A = ℕ} (get_or (replicate n 0) i 0) 0
zero_at zero i = refl
zero_at (suc n) zero = refl
zero_at (suc n) (suc i) = zero_at n i

pub none_marked : (size : ℕ) (room : List ℕ) (f : ℕ → ℕ) → room ≡ replicate size 0 → Marked size room 0 f
none_marked size room f e =
    record {
      size_is = ap length e ∙ length-replicate size 0;
      marks = λ i h. absurd (omega arith);
      zeros = λ i h. rw e (zero_at size i);
    }

module _ {size count : ℕ} {room : List ℕ} {f : ℕ → ℕ} (M : Marked size room count f) where
  pub marked_more : (y : ℕ) → count < size → y ≡ f count → Marked size (set room count y) (count + 1) f
  marked_more y h e =
      let long = M.size_is in
      record {
        size_is = length-set room count y ∙ M.size_is;
        marks =
            below_more (λ i. get_or (set room count y) i 0 ≡ f i) count
            (λ i k. get_or-set_other room count i y 0 (λ q. omega arith) ∙ M.marks i k)
            (get_or-set_same room count y 0 (omega arith) ∙ e);
        zeros = λ i k. get_or-set_other room count i y 0 (λ q. omega arith) ∙ M.zeros i (omega arith);
      }

  pub marked_same : 0 ≡ f count → Marked size room (count + 1) f
  marked_same e =
      record {
        size_is = M.size_is;
        marks = below_more (λ i. get_or room i 0 ≡ f i) count M.marks (M.zeros count (omega arith) ∙ e);
        zeros = λ i k. M.zeros i (omega arith);
      }
