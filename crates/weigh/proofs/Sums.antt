-- The sums by place: one place more, and the weights of a root's outputs as their room has them.
use mathlib.Core.Path.{◌≡◌, refl, ap}
use mathlib.Core.Bool.{true}
use mathlib.Core.List.{List}
use Prim.Native.Nat.{ℕ, zero, suc, ◌+◌, ◌*◌, ◌<◌, ◌≤◌}
use native.Mathlib.Nat.{mul-le-mul}
use native.Mathlib.Numerals.{add-one}
use native.Mathlib.Omega.{arith}
use lib.ListN.{length, get_or}
use Rattle.paper.specs.Sizes.{wish_variable, counter_start}
use Rattle.paper.specs.declared.Width.{Width}
use Rattle.paper.specs.Clauses.{Truth, only}
use Rattle.paper.specs.Session.{Counter, no_counter}
use Rattle.weights.specs.Weights.{output_variable, output_places, output_table}
use Rattle.weights.proofs.Tables.{get_d_table}
use Rattle.weights.proofs.Places.{output_at}
use Rattle.weigh.specs.Weighing.{wish_sum, output_sum, counter_sum}

pub wish_more : (t : Truth) (f : ℕ → ℕ) (j : ℕ)
    → wish_sum t f (j + 1) ≡ wish_sum t f j + only (t (wish_variable j)) (f (wish_variable j))
unfolding wish_sum
wish_more t f j = rw (add-one j)

pub output_more : (f : ℕ → ℕ) (start k : ℕ)
    → output_sum (λ v. true) f start (k + 1) ≡ output_sum (λ v. true) f start k + f (start + k)
unfolding output_sum
output_more f start k = rw (add-one k)

pub counter_more : (u : Width) (xs : List Counter) (t : Truth) (f : ℕ → ℕ) (c : ℕ)
    → counter_sum u xs t f (c + 1)
    ≡ counter_sum u xs t f c + output_sum t f (counter_start u c) (length (get_or xs c no_counter).inputs)
unfolding counter_sum
counter_more u xs t f c = rw (add-one c)

outputs_same : (f g : ℕ → ℕ) (start first n : ℕ) → ((k : ℕ) → k < n → f (start + k) ≡ g (first + k))
    → output_sum (λ v. true) f start n ≡ output_sum (λ v. true) g first n
unfolding output_sum
outputs_same f g start first zero e = refl
outputs_same f g start first (suc n) e =
    rw (outputs_same f g start first n (λ k h. e k (omega arith)), e n (omega arith))

place_below : (a b c k : ℕ) → c < b → k < a → a * c + k < b * a
place_below a b c k h l =
    let m : a * suc c ≤ a * b = mul-le-mul {n₁ = a} {m₁ = suc c} {n₂ = a} {m₂ = b} (omega arith) h in
    omega arith

-- The first n outputs of counter c stand one after the other in their room.
pub outputs_stand : (u : Width) (outputs : List ℕ) (f : ℕ → ℕ) → outputs ≡ output_table u f
    → (c n : ℕ) → c < u.counters → n ≤ u.literals
    → output_sum (λ v. true) (λ i. get_or outputs i 0) (u.literals * c) n ≡ output_sum (λ v. true) f (counter_start u c) n
outputs_stand u outputs f e c n h l =
    outputs_same (λ i. get_or outputs i 0) f (u.literals * c) (counter_start u c) n (λ k q.
    rw (
      e,
      get_d_table (output_places u) (λ i. f (output_variable u i)) (u.literals * c + k)
          (place_below u.literals u.counters c k h (omega arith)),
    )
    (ap f (output_at u c k (omega arith))))
