-- The remaining weights of a session that steps have reached: none where the rooms have no place, and after each step what the
-- functions of this crate leave.
use mathlib.Core.Path.{◌≡◌, refl, sym, fun_ext}
use mathlib.Core.Bool.{Bool, true, false, not, ◌&&◌}
use mathlib.Core.List.{List, [], ◌∷◌, map}
use mathlib.Core.Logic.{⊎_elim}
use Prim.Native.Nat.{ℕ, zero, suc, ◌+◌, ◌-◌, ◌*◌, ◌/◌, ◌%◌, ◌<◌, ◌≤◌}
use native.Mathlib.Nat.{div-add-mod, mod-lt, mul-le-mul_left, le-div_iff_mul-le}
use native.Mathlib.Omega.{arith}
use lib.Dec.{ltb, leb}
use lib.ListN.{length, get_or, replicate, length-map}
use borrow.Author.Tests.{ltb-true, ltb-false, leb-true}
use Rattle.std.specs.Prelude.{Option, Some, None}
use Rattle.std.proofs.lemmas.Option.{none-some}
use Rattle.paper.specs.Sizes.{narrow, wish_room, first_wish, wish_variable, first_counter, counter_start}
use Rattle.paper.specs.declared.Width.{Width}
use Rattle.paper.specs.Clauses.{Clause, variable, every, variable_twice, pick}
use Rattle.paper.specs.Session.{Counter, Sheet, Work, Session, blank, no_work}
use Rattle.paper.specs.Session.{spread, upper_outputs, counter_gives, given, remaining}
use Rattle.paper.specs.Steps.{core, accepted, next, add_rule, add_wish, add_derived, relax}
use Rattle.paper.specs.Steps.{member, core_form, least, members, core_weight, with_counter_over}
use Rattle.paper.specs.Runs.{Reached}
use Rattle.paper.proofs.Lists.{and_split, every-at}
use Rattle.paper.proofs.Tables.{next_accepted}
use Rattle.paper.proofs.Truths.{Ordered}
use Rattle.paper.proofs.Given.{wishes_below, wishes_above, wishes-append, counters_below, counters_above, counters_snoc}
use Rattle.paper.proofs.Accepted.{core_taken}
use Rattle.paper.proofs.Invariant.{Sound}
use Rattle.paper.proofs.Costs.{reached_sound, total_law}
use Rattle.paper.proofs.Reach.{next_reached}
use Rattle.weights.specs.Weights.{Spaced, output_places, Weighs, place_of, in_room, placed, Elsewhere}
use Rattle.weights.specs.Weights.{gained, lost, least_member}
use Rattle.weights.specs.declared.Place.{Place}
use Rattle.weights.specs.declared.Place.TheVariants.{InWishes, InOutputs}
use Rattle.weights.proofs.Places.{Stands, stands}
use Rattle.weights.proofs.Spreads.{upper_past}
use Rattle.weights.proofs.Rooms.{zeros_weigh}
use Rattle.weights.proofs.Members.{spread_none}

pub narrow_spaced : Spaced narrow
narrow_spaced = omega arith

-- The weights after a core of weight w: its members lose it, and root outputs 2 to m of the counter over them, which begins at
-- `start`, gain it. Of one member's counter these are none.
abbrev pub after_core : (ℕ → ℕ) → ℕ → List ℕ → ℕ → ℕ → ℕ
after_core f w xs start = gained (lost f w xs) w (upper_outputs start (length xs))

-- ── Variables without weight ──

-- Between the root outputs of a counter and the next counter.
between_outputs : (u : Width) (cs : List Counter) (start : ℕ) → Ordered u start cs → (v q r : ℕ) → v ≡ start + (u.stride * q + r)
    → u.literals ≤ r → r < u.stride → counter_gives u.stride cs start v ≡ 0
between_outputs u [] start o v q r e h k = refl
between_outputs u (x ∷ cs) start o v zero r e h k =
    let l = o.1 in
    rw (
      upper_past x.weight start (length x.inputs) v (omega arith),
      counters_below u.stride cs (start + u.stride) v (omega arith),
    )
between_outputs u (x ∷ cs) start o v (suc q) r e h k =
    let l = o.1 in
    rw (
      upper_past x.weight start (length x.inputs) v (omega arith),
      between_outputs u cs (start + u.stride) o.4 v q r (omega arith) h k,
    )

-- Where a counter has no variables, there is none.
no_counters : (u : Width) (cs : List Counter) (start v : ℕ) → Ordered u start cs → u.literals ≡ 0
    → counter_gives u.stride cs start v ≡ 0
no_counters u [] start v o e = refl
no_counters u (x ∷ cs) start v o e = let k = o.0 in let l = o.1 in absurd (omega arith)

module _ (S : Sheet) (W : Work) (sound : Sound S W) where
  -- Past the last counter.
  given_past : (v : ℕ) → counter_start S.width (length W.counters) ≤ v → given S W v ≡ 0
  given_past v h =
      let few = sound.few in
      rw (
        wishes_above S.wishes first_wish v (omega arith),
        counters_above S.width sound.fits W.counters first_counter v sound.ordered h,
      )

  -- In a counter, past the outputs of its root.
  given_inner : (v : ℕ) → first_counter ≤ v → S.width.literals ≤ (v - first_counter) % S.width.stride → given S W v ≡ 0
  given_inner v l h = go (ltb 0 S.width.stride) refl
    where
      go : (b : Bool) → ltb 0 S.width.stride ≡ b → given S W v ≡ 0
      go true e =
          let few = sound.few in
          let parts = div-add-mod (v - first_counter) S.width.stride in
          let rest = mod-lt (v - first_counter) (ltb-true 0 S.width.stride e) in
          rw (
            wishes_above S.wishes first_wish v (omega arith),
            between_outputs S.width W.counters first_counter sound.ordered v ((v - first_counter) / S.width.stride)
                ((v - first_counter) % S.width.stride) (omega arith) h rest,
          )
      go false e =
          let few = sound.few in
          let flat = ltb-false 0 S.width.stride e in
          let slim = sound.fits.slim in
          rw (
            wishes_above S.wishes first_wish v (omega arith),
            no_counters S.width W.counters first_counter v sound.ordered (omega arith),
          )

  given_none : (v : ℕ) → placed S.width v ≡ false → given S W v ≡ 0
  given_none v e = go (place_of S.width v) (stands S.width v) e
    where
      go : (p : Option Place) → Stands S.width v p → in_room S.width p ≡ false → given S W v ≡ 0
      go (Some (InWishes j)) at e =
          let is = at.0 in
          let low = at.1 in
          let far = ltb-false j wish_room.clauses e in
          let few = sound.few in
          rw (
            wishes_above S.wishes first_wish v (omega arith),
            counters_below S.width.stride W.counters first_counter v (omega arith),
          )
      go (Some (InOutputs i)) at e =
          let is = at.0 in
          let few = sound.few_counters in
          let past = ltb-false i (output_places S.width) e in
          let far : S.width.counters ≤ i / S.width.literals =
          (le-div_iff_mul-le {k = S.width.literals} {x = S.width.counters} {y = i} at.1).1 past in
          let reach : S.width.stride * length W.counters ≤ S.width.stride * (i / S.width.literals) =
          mul-le-mul_left S.width.stride (omega arith) in
          given_past v (omega arith)
      go None at e =
          ⊎_elim
          (λ low.
          rw (
            wishes_below S.wishes first_wish v low,
            counters_below S.width.stride W.counters first_counter v (omega arith),
          ))
          (λ k. given_inner v k.0 k.1) at

  -- ── A core ──

  counter_gives_lem : (xs : List ℕ) (w v : ℕ)
      → counter_gives S.width.stride (with_counter_over xs w W.counters) first_counter v
      ≡ counter_gives S.width.stride W.counters first_counter v
      + spread w (upper_outputs (counter_start S.width (length W.counters)) (length xs)) v
  counter_gives_lem [] w v = omega arith
  counter_gives_lem (x ∷ []) w v = omega arith
  counter_gives_lem (x ∷ (y ∷ ys)) w v =
      counters_snoc S.width.stride W.counters (record { inputs = x ∷ (y ∷ ys); weight = w }) first_counter v

  relaxed : (c : Clause) (w : ℕ) → every (member S W) c ≡ true → (v : ℕ)
      → remaining S (relax W (map variable c) w) v
      ≡ after_core (remaining S W) w (map variable c) (counter_start S.width (length W.counters)) v
  relaxed c w e v = go (ltb v start) refl
    where
      xs : List ℕ
      xs = map variable c

      start : ℕ
      start = counter_start S.width (length W.counters)

      go : (b : Bool) → ltb v start ≡ b → remaining S (relax W xs w) v ≡ after_core (remaining S W) w xs start v
      go true q =
          let gives = counter_gives_lem xs w v in
          let low = ltb-true v start q in
          let none = counters_below S.width.stride (record { inputs = xs; weight = w } ∷ []) start v (omega arith) in
          omega arith
      go false q =
          let gives = counter_gives_lem xs w v in
          let none = given_past v (ltb-false v start q) in
          let within = sound.within v in
          let off = spread_none (remaining S W) w v c e (omega arith) in
          omega arith

-- ── The least weight of a core ──

module _ (S : Sheet) (W : Work) (c : Clause) where
  -- None exactly where 22 refuses.
  pub least_refused : least_member (remaining S W) c ≡ None → core_form S W c ≡ false
  least_refused e = go (core_form S W c) e
    where
      go : (b : Bool) → pick b (Some (least (remaining S W) (map variable c))) None ≡ None → b ≡ false
      go true q = absurd (none-some (least (remaining S W) (map variable c)) (sym q))
      go false q = refl

  pub least_taken : (w : ℕ) → least_member (remaining S W) c ≡ Some w
      → (core_form S W c ≡ true) × (w ≡ least (remaining S W) (map variable c))
  least_taken w e = go (core_form S W c) e
    where
      go : (b : Bool) → pick b (Some (least (remaining S W) (map variable c))) None ≡ Some w
          → (b ≡ true) × (w ≡ least (remaining S W) (map variable c))
      go true q = (refl, cc)
      go false q = absurd (none-some w q)

-- ── After each step ──

pub opened_weighs : (n : ℕ)
    → Weighs narrow (replicate wish_room.clauses 0) (replicate (output_places narrow) 0) (remaining (blank n) no_work)
opened_weighs n = zeros_weigh narrow

pub rule_remaining : (S : Sheet) (W : Work) (c : Clause) → remaining (add_rule S c) W ≡ remaining S W
rule_remaining S W c = refl

pub derived_remaining : (S : Sheet) (W : Work) (c : Clause) → remaining S (add_derived W c) ≡ remaining S W
derived_remaining S W c = refl

module _ (s : Session) (r : Reached s) where
  pub spaced : Spaced s.sheet.width
  spaced = (reached_sound s r).fits.slim

  pub elsewhere : Elsewhere s.sheet.width (remaining s.sheet s.work)
  elsewhere v e = let none = given_none s.sheet s.work (reached_sound s r) v e in omega arith

  -- The next wish has nothing yet.
  pub wish_free : remaining s.sheet s.work (wish_variable (length s.sheet.wishes)) ≡ 0
  wish_free =
      let few = (reached_sound s r).few in
      let v = wish_variable (length s.sheet.wishes) in
      let wishes = wishes_above s.sheet.wishes first_wish v (omega arith) in
      let counters = counters_below s.sheet.width.stride s.work.counters first_counter v (omega arith) in
      omega arith

  pub wish_remaining : (w : ℕ) (c : Clause)
      → remaining (add_wish s.sheet w c) s.work
      ≡ gained (remaining s.sheet s.work) w (wish_variable (length s.sheet.wishes) ∷ [])
  wish_remaining w c = fun_ext (λ v.
      let gives = wishes-append s.sheet.wishes (record { literals = c; weight = w } ∷ []) first_wish v in
      let within = (reached_sound s r).within v in
      omega arith)

  -- Nor has the next counter.
  pub output_free : (t : ℕ) → remaining s.sheet s.work (counter_start s.sheet.width (length s.work.counters) + t) ≡ 0
  output_free t =
      let v = counter_start s.sheet.width (length s.work.counters) + t in
      let none = given_past s.sheet s.work (reached_sound s r) v (omega arith) in
      omega arith

  module _ (d : ℕ) (e : accepted s (core d) ≡ true) where
    pub core_remaining :
        remaining s.sheet (relax s.work (members s.work d) (core_weight s.sheet s.work d))
        ≡ after_core (remaining s.sheet s.work) (core_weight s.sheet s.work d) (members s.work d)
        (counter_start s.sheet.width (length s.work.counters))
    core_remaining =
        let c = get_or s.work.derived d [] in
        let form = and_split (ltb 0 (length c)) _ (core_taken s d e).form in
        fun_ext (relaxed s.sheet s.work (reached_sound s r) c (core_weight s.sheet s.work d) form.1)

    pub core_short : length (members s.work d) ≤ s.sheet.width.literals
    core_short =
        let c = get_or s.work.derived d [] in
        let long : length (members s.work d) ≡ length c = length-map c variable in
        let shape = every-at (λ x. leb (length x) s.sheet.width.literals && not (variable_twice x)) [] s.work.derived
        (reached_sound s r).derived_form d (core_taken s d e).there in
        let short = (and_split (leb (length c) s.sheet.width.literals) _ shape).0 in
        omega (arith, leb-true (length c) s.sheet.width.literals short)

    pub core_bound : s.work.bound + core_weight s.sheet s.work d ≤ 512000000
    core_bound = rw (next_accepted s (core d) e) at (total_law (next s (core d)) (next_reached s (core d) r)).1
