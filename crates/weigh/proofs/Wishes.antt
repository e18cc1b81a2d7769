-- One wish as it is weighed: the clause that is read, whether it is broken, and the weight on its variable.
use mathlib.Core.Path.{◌≡◌, ◌∙◌}
use mathlib.Core.Bool.{Bool, true, false, not}
use mathlib.Core.List.{List, []}
use Prim.Native.Nat.{ℕ, ◌+◌, ◌<◌}
use native.Mathlib.Omega.{arith}
use lib.IntN.{ℤ}
use lib.ListN.{get_or, set, length-map, get_or-map}
use Rattle.paper.specs.Sizes.{wish_room, wish_variable}
use Rattle.paper.specs.Clauses.{Clause, Truth, clause_true, only}
use Rattle.paper.specs.Session.{Wish, Session, no_wish}
use Rattle.clauses.specs.Family.{Holds}
use Rattle.weights.proofs.Tables.{get_d_table}
use Rattle.rooms.specs.Held.{wish_family}
use Rattle.weigh.specs.Marks.{Marked, broken_mark, OverWishes}
use Rattle.weigh.proofs.Inputs.{wish_truth}
use Rattle.weigh.proofs.Marks.{marked_more, marked_same}

module _ {s : Session} {a t : Truth} {f : ℕ → ℕ} {size count : ℕ} {literals : List ℤ} {ends left : List ℕ}
    (W : OverWishes s a t f size count literals ends left) where
  pub counted : Holds wish_room.literals wish_room.clauses literals ends count (wish_family s.sheet.wishes)
  counted = rw (W.count_is, ← length-map s.sheet.wishes (λ (x : Wish). x.literals)) W.held

  module _ (number : ℕ) (h : number < count) where
    left_at : get_or left number 0 ≡ f (wish_variable number)
    left_at =
        let few = counted.few in
        let same = counted.count_is in
        rw W.left_are (get_d_table wish_room.clauses (λ j. f (wish_variable j)) number (omega arith))

    -- `read` is whether the clause is true.
    module _ (clause : Clause) (is : clause ≡ get_or (wish_family s.sheet.wishes) number [])
        (read : Bool) (e : read ≡ clause_true a clause) where
      wish_is : t (wish_variable number) ≡ not read
      wish_is =
          let k = W.count_is in
          rw (e, is, get_or-map (λ (x : Wish). x.literals) s.sheet.wishes number no_wish, W.truth_is)
          (wish_truth s W.reached a number (omega arith))

      module _ {room : List ℕ} (M : Marked size room number (broken_mark t)) where
        pub kept : read ≡ true
            → Marked size room (number + 1) (broken_mark t) × (0 ≡ only (t (wish_variable number)) (f (wish_variable number)))
        kept q = (marked_same M (rw (wish_is, q)), rw (wish_is, q))

        pub breaks : read ≡ false → (room' : List ℕ) → room' ≡ set room number 1 → (r : ℕ) → r ≡ get_or left number 0
            → Marked size room' (number + 1) (broken_mark t) × (r ≡ only (t (wish_variable number)) (f (wish_variable number)))
        breaks q room' stored r p =
            let enough = W.enough in
            (rw stored (marked_more M 1 (omega arith) (rw (wish_is, q))), rw (wish_is, q) (p ∙ left_at))
