-- A variable and its place give each other back.
use mathlib.Core.Path.{◌≡◌, refl, ap, subst, ◌∙◌}
use mathlib.Core.Bool.{Bool, true, false}
use mathlib.Core.Logic.{◌⊎◌, inl, inr}
use Prim.Native.Nat.{ℕ, zero, suc, ◌+◌, ◌-◌, ◌*◌, ◌/◌, ◌%◌, ◌<◌, ◌≤◌}
use native.Mathlib.Nat.{mul-add-div, mul-add-mod_self_left, div-eq_of_lt, mod-eq_of_lt, mod-lt, div-add-mod}
use native.Mathlib.Omega.{arith}
use lib.Dec.{ltb}
use borrow.Author.Tests.{ltb-true, ltb-false, lt-ltb, le-ltb}
use Rattle.std.specs.Prelude.{Option, Some, None}
use Rattle.paper.specs.Sizes.{wish_room, first_wish, wish_variable, first_counter, counter_start}
use Rattle.paper.specs.declared.Width.{Width}
use Rattle.paper.specs.Clauses.{pick}
use Rattle.weights.specs.Weights.{Spaced, output_variable, output_places, place_of, in_room, placed}
use Rattle.weights.specs.declared.Place.{Place}
use Rattle.weights.specs.declared.Place.TheVariants.{InWishes, InOutputs}

pub quotient : (d q r : ℕ) → r < d → (d * q + r) / d ≡ q
quotient d q r h = let e = mul-add-div {m = d} (omega arith) q r in let z = div-eq_of_lt h in omega arith

pub remainder : (d q r : ℕ) → r < d → (d * q + r) % d ≡ r
remainder d q r h = mul-add-mod_self_left d q r ∙ mod-eq_of_lt h

module _ (u : Width) where
  some_literals : (i : ℕ) → i < output_places u → 0 < u.literals
  some_literals i h = go u.literals h
    where
      go : (n : ℕ) → i < u.counters * n → 0 < n
      go zero h = absurd (omega arith)
      go (suc n) h = omega arith

  -- Output t of counter c, both from 0.
  pub output_at : (c t : ℕ) → t < u.literals → output_variable u (u.literals * c + t) ≡ counter_start u c + t
  output_at c t h = rw (quotient u.literals c t h, remainder u.literals c t h)

  -- ── From the variable ──

  -- What the place of a variable says of it.
  abbrev pub Stands : ℕ → Option Place → Type 0
  Stands v (Some (InWishes j)) = (v ≡ wish_variable j) × (v < first_counter)
  Stands v (Some (InOutputs i)) = (v ≡ output_variable u i) × (0 < u.literals)
  Stands v None = (v < first_wish) ⊎ ((first_counter ≤ v) × (u.literals ≤ (v - first_counter) % u.stride))

  pub stands : (v : ℕ) → Stands v (place_of u v)
  stands v = go (ltb v first_counter) refl (ltb v first_wish) refl (ltb (past % u.stride) u.literals) refl
    where
      past : ℕ
      past = v - first_counter

      go : (a : Bool) → ltb v first_counter ≡ a → (b : Bool) → ltb v first_wish ≡ b
          → (d : Bool) → ltb (past % u.stride) u.literals ≡ d
          → Stands v (pick a (pick b None (Some (InWishes (v - first_wish))))
          (pick d (Some (InOutputs (u.literals * (past / u.stride) + past % u.stride))) None))
      go true p true q d r = inl (ltb-true v first_wish q)
      go true p false q d r = let low = ltb-true v first_counter p in let high = ltb-false v first_wish q in (omega arith, low)
      go false p b q true r =
          let high = ltb-false v first_counter p in
          let within = ltb-true (past % u.stride) u.literals r in
          let parts = div-add-mod past u.stride in
          (rw (output_at (past / u.stride) (past % u.stride) within) (omega arith), omega arith)
      go false p b q false r = inr (ltb-false v first_counter p, ltb-false _ _ r)

  pub wish_is : (v j : ℕ) → place_of u v ≡ Some (InWishes j) → (v ≡ wish_variable j) × (v < first_counter)
  wish_is v j e = subst (Stands v) e (stands v)

  pub output_is : (v i : ℕ) → place_of u v ≡ Some (InOutputs i) → v ≡ output_variable u i
  output_is v i e = (subst (Stands v) e (stands v)).0

  -- ── From the place ──

  pub wish_placed : (j : ℕ) → j < wish_room.clauses → placed u (wish_variable j) ≡ true
  wish_placed j h =
      let d : wish_variable j - first_wish ≡ j = omega arith in
      rw (lt-ltb (wish_variable j) first_counter (omega arith), le-ltb (wish_variable j) first_wish (omega arith), d)
      (lt-ltb j wish_room.clauses h)

  module _ (spaced : Spaced u) where
    output_place : (i : ℕ) → 0 < u.literals → place_of u (output_variable u i) ≡ Some (InOutputs i)
    output_place i some =
        let k = mod-lt i some in
        let m : i % u.literals < u.stride = omega arith in
        let d : output_variable u i - first_counter ≡ u.stride * (i / u.literals) + i % u.literals = omega arith in
        rw (
          le-ltb (output_variable u i) first_counter (omega arith),
          d,
          quotient u.stride (i / u.literals) (i % u.literals) m,
          remainder u.stride (i / u.literals) (i % u.literals) m,
          lt-ltb (i % u.literals) u.literals k,
          div-add-mod i u.literals,
        )

    pub output_placed : (i : ℕ) → i < output_places u → placed u (output_variable u i) ≡ true
    output_placed i h = ap (in_room u) (output_place i (some_literals i h)) ∙ lt-ltb i (output_places u) h

    -- A place of the outputs room has its variable alone; the other place may lie past the end.
    pub outputs_apart : (i j : ℕ) → i < output_places u → output_variable u i ≡ output_variable u j → i ≡ j
    outputs_apart i j h e =
        let p = output_place i (some_literals i h) in
        let q = output_place j (some_literals i h) in
        let r = ap (place_of u) e in
        cc
