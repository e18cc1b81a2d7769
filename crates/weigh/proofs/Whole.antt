-- An arrangement of a reached session: what its wishes and its counters are weighed by, and what the parts add up to. `tally` is
-- the session's, `t` the truth of every variable.
use mathlib.Core.Path.{◌≡◌, refl, sym, ap, ◌∙◌}
use mathlib.Core.List.{List}
use Prim.Native.Nat.{ℕ, ◌+◌, ◌≤◌}
use native.Mathlib.Omega.{arith}
use lib.IntN.{ℤ}
use lib.ListN.{length}
use Rattle.paper.specs.Sizes.{narrow, wish_room, numbers_end}
use Rattle.paper.specs.declared.Tally.{Tally}
use Rattle.paper.specs.declared.Width.{Width}
use Rattle.paper.specs.Clauses.{Truth}
use Rattle.paper.specs.Session.{Session, tally_of, remaining}
use Rattle.paper.specs.Truth.{truth, weight_on}
use Rattle.paper.specs.Runs.{Reached}
use Rattle.paper.proofs.Costs.{reached_sound}
use Rattle.paper.proofs.Reach.{reached_narrow}
use Rattle.rooms.specs.Held.{HeldIn, HeldCounters, HeldWeights, wish_family}
use Rattle.weigh.specs.Weighing.{wish_sum, counter_sum}
use Rattle.weigh.proofs.ByPlace.{sum_by_place}
use Rattle.weigh.specs.Marks.{Marked, broken_mark, OverWishes, OverCounters}

module _ (s : Session) (reached : Reached s) (tally : Tally) (eq : tally ≡ tally_of s) where
  pub few_wishes_lem : tally.wishes ≤ wish_room.clauses
  few_wishes_lem = let k = ap (λ (x : Tally). x.wishes) eq in omega (arith, (reached_sound s reached).few)

  module _ (u : Width) (is : u ≡ narrow) where
    width_is : u ≡ s.sheet.width
    width_is = is ∙ sym (reached_narrow s reached)

    pub few_counters_lem : tally.counters ≤ u.counters
    few_counters_lem =
        let k = ap (λ (x : Tally). x.counters) eq in
        rw width_is (omega (arith, (reached_sound s reached).few_counters))

    module _ (a : Truth) where
      abbrev t : Truth
      t = truth s.sheet s.work a

      abbrev f : ℕ → ℕ
      f = remaining s.sheet s.work

      -- The sum over both.
      pub total : (bound wishes counters : ℕ) → bound ≡ tally.bound
          → wishes ≡ wish_sum t f tally.wishes
          → counters ≡ counter_sum u s.work.counters t f tally.counters
          → bound + wishes + counters ≡ s.work.bound + weight_on t (numbers_end s.sheet.width) f
      total bound wishes counters b w k =
          rw (sum_by_place s reached t) (rw (b, w, k, eq, width_is) (omega arith))

      module _ {left outputs : List ℕ} (weights : HeldWeights left outputs s) where
        pub over_wishes : {literals : List ℤ} {ends : List ℕ} → HeldIn wish_room literals ends (wish_family s.sheet.wishes)
            → (size : ℕ) → length s.sheet.wishes ≤ size → OverWishes s a t f size tally.wishes literals ends left
        over_wishes held size h =
            let k = ap (λ (x : Tally). x.wishes) eq in
            record {
              reached = reached;
              truth_is = refl;
              count_is = k;
              held = held;
              left_are = weights.wishes_are;
              enough = omega arith;
            }

        pub over_counters : {inputs : List ℤ} {ends broken : List ℕ} → HeldCounters inputs ends s
            → (size broken_size : ℕ) → length s.work.counters ≤ size
            → Marked broken_size broken tally.wishes (broken_mark t)
            → OverCounters s a t f u size tally.counters inputs ends outputs broken
        over_counters held size broken_size h marked =
            let k = ap (λ (x : Tally). x.counters) eq in
            record {
              reached = reached;
              truth_is = refl;
              width_is = width_is;
              count_is = k;
              held = held;
              outputs_are = rw width_is weights.outputs_are;
              broken_size = broken_size;
              marked = rw eq at marked;
              enough = omega arith;
            }
