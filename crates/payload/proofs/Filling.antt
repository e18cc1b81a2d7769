-- A room that is filled from its front with what stands in the bytes: `rest n bytes` is n elements, of `size` bytes each.
use mathlib.Core.Path.{◌≡◌, ◌∙◌}
use mathlib.Core.List.{List, ◌∷◌, ◌++◌, append_assoc}
use Prim.Native.Nat.{ℕ, suc, ◌+◌, ◌-◌, ◌<◌, ◌≤◌}
use native.Mathlib.Numerals.{add-one}
use native.Mathlib.Omega.{arith}
use lib.ListN.{length, take, drop, set, length-set}
use lib.Seq.{take-suc-set}

-- What is written, with what is still to come, is the whole.
pub record Filling {A : Type 0} (rest : ℕ → List ℕ → List A) (bytes : List ℕ) (room₀ room : List A) (left : List ℕ) (i : ℕ)
    : Type 0 where
  pub within : i ≤ length room₀
  pub same_length : length room ≡ length room₀
  pub whole : take i room ++ rest (length room₀ - i) left ≡ rest (length room₀) bytes

module _ {A : Type 0} (rest : ℕ → List ℕ → List A) (bytes : List ℕ) (room₀ : List A) where
  pub filled_more : (size : ℕ) (read : List ℕ → A)
      → ((n : ℕ) (bytes : List ℕ) → rest (suc n) bytes ≡ read bytes ∷ rest n (drop size bytes))
      → {room : List A} {left next : List ℕ} {i : ℕ} {x : A} → Filling rest bytes room₀ room left i → i < length room₀
      → x ≡ read left → next ≡ drop size left
      → Filling rest bytes room₀ (set room i x) next (i + 1)
  filled_more size read more {room} {left} {next} {i} {x} F h e f =
      let one : length room₀ - i ≡ suc (length room₀ - suc i) = omega arith in
      let k : i < length room = omega arith in
      let was = rw (one, more, ← e, ← f) at F.whole in
      record {
        within = omega arith;
        same_length = length-set room i x ∙ F.same_length;
        whole = rw (add-one, take-suc-set room i x, append_assoc) was;
      }
