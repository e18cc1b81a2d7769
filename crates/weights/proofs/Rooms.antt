-- What the rooms weigh, read at one place and after a store at one place.
use mathlib.Core.Path.{◌≡◌, refl, sym, ap, ◌∙◌}
use mathlib.Core.Bool.{Bool, true, false, true≢false}
use mathlib.Core.List.{List, [], ◌∷◌}
use Prim.Native.Nat.{ℕ, ◌+◌, ◌-◌, ◌*◌, ◌<◌}
use native.Mathlib.Omega.{arith}
use lib.Dec.{ltb}
use lib.ListN.{length, get_or, set, replicate, get_or-eq_default}
use borrow.Author.Tests.{ltb-true, ltb-false}
use Rattle.std.specs.Prelude.{Option, Some, None}
use Rattle.paper.specs.Sizes.{wish_room, wish_variable, first_counter, counter_start}
use Rattle.paper.specs.declared.Width.{Width}
use Rattle.weights.specs.Weights.{table, Spaced, output_variable, output_places, wish_table, output_table, Weighs}
use Rattle.weights.specs.Weights.{place_of, in_room, placed, Elsewhere, gained, lost}
use Rattle.weights.specs.declared.Place.{Place}
use Rattle.weights.specs.declared.Place.TheVariants.{InWishes, InOutputs}
use Rattle.weights.proofs.Tables.{length_table, get_d_table, table_same, set_table, zero_table}
use Rattle.weights.proofs.Places.{output_at, wish_is, output_is, wish_placed, output_placed, outputs_apart}
use Rattle.weights.proofs.Spreads.{spread_on, spread_off}

-- Rooms of zeros weigh nothing.
pub zeros_weigh : (u : Width) → Weighs u (replicate wish_room.clauses 0) (replicate (output_places u) 0) (λ v. 0)
zeros_weigh u = record { wishes_are = zero_table wish_room.clauses; outputs_are = zero_table (output_places u) }

-- ── One room, which has a place for each of n variables ──

module _ (n : ℕ) (variableAt f : ℕ → ℕ) (room : List ℕ) (is : room ≡ table n (λ i. f (variableAt i))) where
  held : (i : ℕ) → i < n → get_or room i 0 ≡ f (variableAt i)
  held i h = rw is (get_d_table n (λ j. f (variableAt j)) i h)

  -- Past its end a room reads as 0.
  held_or_none : (i v : ℕ) → v ≡ variableAt i → (ltb i n ≡ false → f v ≡ 0) → get_or room i 0 ≡ f v
  held_or_none i v e none = go (ltb i n) refl
    where
      go : (b : Bool) → ltb i n ≡ b → get_or room i 0 ≡ f v
      go true q = held i (ltb-true i n q) ∙ ap f (sym e)
      go false q =
          let past = ltb-false i n q in
          let long = ap length is ∙ length_table n (λ j. f (variableAt j)) in
          get_or-eq_default room 0 (omega arith) ∙ sym (none q)

  -- The weights change at variable x alone.
  module _ (g : ℕ → ℕ) (x : ℕ) (else : (v : ℕ) → (v ≡ x → ⊥) → f v ≡ g v) where
    kept : ((i : ℕ) → i < n → variableAt i ≡ x → ⊥) → room ≡ table n (λ i. g (variableAt i))
    kept apart = is ∙ table_same n (λ i. f (variableAt i)) (λ i. g (variableAt i)) (λ i h. else (variableAt i) (apart i h))

    stored : (i y : ℕ) → x ≡ variableAt i → (i < n → y ≡ g x) → ((j : ℕ) → j < n → variableAt j ≡ variableAt i → j ≡ i)
        → set room i y ≡ table n (λ j. g (variableAt j))
    stored i y e here one =
        ap (λ (room : List ℕ). set room i y) is
        ∙ set_table n (λ j. f (variableAt j)) (λ j. g (variableAt j)) i y (λ h. here h ∙ ap g e)
        (λ j h d. else (variableAt j) (λ q. d (one j h (q ∙ e))))

-- ── Both rooms ──

abbrev weight_at : List ℕ → List ℕ → Option Place → ℕ
weight_at wishes outputs (Some (InWishes at)) = get_or wishes at 0
weight_at wishes outputs (Some (InOutputs at)) = get_or outputs at 0
weight_at wishes outputs None = 0

module _ {u : Width} {wishes outputs : List ℕ} {f : ℕ → ℕ} (weighs : Weighs u wishes outputs f) where
  pub weight_is : Elsewhere u f → (v : ℕ) (p : Option Place) → place_of u v ≡ p → weight_at wishes outputs p ≡ f v
  weight_is none v (Some (InWishes j)) e =
      held_or_none wish_room.clauses wish_variable f wishes weighs.wishes_are j v (wish_is u v j e).0
      (λ q. none v (ap (in_room u) e ∙ q))
  weight_is none v (Some (InOutputs i)) e =
      held_or_none (output_places u) (output_variable u) f outputs weighs.outputs_are i v (output_is u v i e)
      (λ q. none v (ap (in_room u) e ∙ q))
  weight_is none v None e = sym (none v (ap (in_room u) e))

  module _ (g : ℕ → ℕ) (x : ℕ) (else : (v : ℕ) → (v ≡ x → ⊥) → f v ≡ g v) where
    wishes_kept : ((j : ℕ) → j < wish_room.clauses → wish_variable j ≡ x → ⊥) → wishes ≡ wish_table g
    wishes_kept = kept wish_room.clauses wish_variable f wishes weighs.wishes_are g x else

    outputs_kept : ((i : ℕ) → i < output_places u → output_variable u i ≡ x → ⊥) → outputs ≡ output_table u g
    outputs_kept = kept (output_places u) (output_variable u) f outputs weighs.outputs_are g x else

    wish_stored : (j y : ℕ) → x ≡ wish_variable j → x < first_counter → (j < wish_room.clauses → y ≡ g x)
        → Weighs u (set wishes j y) outputs g
    wish_stored j y e low here = record {
      wishes_are =
          stored wish_room.clauses wish_variable f wishes weighs.wishes_are g x else j y e here (λ k h q. omega arith);
      outputs_are = outputs_kept (λ i h q. omega arith);
    }

    module _ (spaced : Spaced u) where
      output_stored : (i y : ℕ) → x ≡ output_variable u i → (i < output_places u → y ≡ g x) → Weighs u wishes (set outputs i y) g
      output_stored i y e here = record {
        wishes_are = wishes_kept (λ j h q. omega arith);
        outputs_are =
            stored (output_places u) (output_variable u) f outputs weighs.outputs_are g x else i y e here
            (λ k h q. outputs_apart u spaced k i h q);
      }

      none_stored : placed u x ≡ false → Weighs u wishes outputs g
      none_stored e = record {
        wishes_are = wishes_kept (λ j h q. true≢false (sym (wish_placed u j h) ∙ ap (placed u) q ∙ e));
        outputs_are = outputs_kept (λ i h q. true≢false (sym (output_placed u spaced i h) ∙ ap (placed u) q ∙ e));
      }

  -- ── What each function leaves ──

  module _ (w x : ℕ) where
    lost_else : (v : ℕ) → (v ≡ x → ⊥) → f v ≡ lost f w (x ∷ []) v
    lost_else v d = omega (arith, spread_off w x v d)

    lost_here : (y : ℕ) → y ≡ f x → y - w ≡ lost f w (x ∷ []) x
    lost_here y e = omega (arith, spread_on w x)

    gained_else : (v : ℕ) → (v ≡ x → ⊥) → f v ≡ gained f w (x ∷ []) v
    gained_else v d = omega (arith, spread_off w x v d)

    gained_here : f x ≡ 0 → w ≡ gained f w (x ∷ []) x
    gained_here e = omega (arith, spread_on w x)

    pub wish_lowered : (j : ℕ) → place_of u x ≡ Some (InWishes j)
        → Weighs u (set wishes j (get_or wishes j 0 - w)) outputs (lost f w (x ∷ []))
    wish_lowered j e =
        let k = wish_is u x j e in
        let here = held wish_room.clauses wish_variable f wishes weighs.wishes_are j in
        wish_stored (lost f w (x ∷ [])) x lost_else j (get_or wishes j 0 - w) k.0 k.1
        (λ h. lost_here (get_or wishes j 0) (here h ∙ ap f (sym k.0)))

    pub started : (j : ℕ) → x ≡ wish_variable j → j < wish_room.clauses → f x ≡ 0
        → Weighs u (set wishes j w) outputs (gained f w (x ∷ []))
    started j e h z = wish_stored (gained f w (x ∷ [])) x gained_else j w e (omega arith) (λ _. gained_here z)

    module _ (spaced : Spaced u) where
      pub output_lowered : (i : ℕ) → place_of u x ≡ Some (InOutputs i)
          → Weighs u wishes (set outputs i (get_or outputs i 0 - w)) (lost f w (x ∷ []))
      output_lowered i e =
          let k = output_is u x i e in
          let here = held (output_places u) (output_variable u) f outputs weighs.outputs_are i in
          output_stored (lost f w (x ∷ [])) x lost_else spaced i (get_or outputs i 0 - w) k
          (λ h. lost_here (get_or outputs i 0) (here h ∙ ap f (sym k)))

      pub none_lowered : placed u x ≡ false → Weighs u wishes outputs (lost f w (x ∷ []))
      none_lowered e = none_stored (lost f w (x ∷ [])) x lost_else spaced e

      pub raised : (c t : ℕ) → x ≡ counter_start u c + t → t < u.literals → f x ≡ 0
          → Weighs u wishes (set outputs (u.literals * c + t) w) (gained f w (x ∷ []))
      raised c t e h z =
          output_stored (gained f w (x ∷ [])) x gained_else spaced (u.literals * c + t) w (e ∙ sym (output_at u c t h))
          (λ _. gained_here z)
