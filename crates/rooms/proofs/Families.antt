-- A family in its rooms, with one clause more or as it was.
use mathlib.Core.Path.{◌≡◌, sym, ◌∙◌}
use mathlib.Core.Bool.{Bool, true, false, not}
use mathlib.Core.List.{List, [], ◌∷◌, ◌++◌}
use Prim.Native.Nat.{ℕ, ◌<◌, ◌≤◌, ◌^◌}
use native.Mathlib.Omega.{arith}
use lib.IntN.{ℤ}
use lib.ListN.{length, length-append}
use borrow.Author.Tests.{le-leb, not-true, not-false}
use Rattle.paper.specs.Sizes.{Room}
use Rattle.paper.specs.Clauses.{Clause}
use Rattle.paper.specs.Steps.{full}
use Rattle.clauses.specs.Family.{Holds, Appended}
use Rattle.rooms.specs.Held.{HeldIn}

module _ (room : Room) (small : room.literals < 2 ^ 32) (literals : List ℤ) (ends : List ℕ) (family : List Clause) (H : HeldIn room literals ends family)
    (count : ℕ) (e : count ≡ length family) where
  counted : Holds room.literals room.clauses literals ends count family
  counted = rw e H

  pub none_left : (c : Clause) → room.clauses ≤ count → full room family c ≡ true
  none_left c h = rw (le-leb room.clauses (length family) (omega arith))

  -- `b` is whether the clause was appended.
  module _ (c : Clause) (b : Bool) (literals' : List ℤ) (ends' : List ℕ) (a : Appended literals ends count c b literals' ends') where
    roomy : b ≡ not (full room family c)
    roomy = a.answer room.literals room.clauses family small counted

    pub was_full : b ≡ false → full room family c ≡ true
    was_full f = not-false _ (sym roomy ∙ f)

    pub was_roomy : b ≡ true → full room family c ≡ false
    was_roomy f = not-true _ (sym roomy ∙ f)

    pub still_held : b ≡ false → HeldIn room literals' ends' family
    still_held f = rw ((a.refused f).0, (a.refused f).1) H

    pub more_held : b ≡ true → HeldIn room literals' ends' (family ++ (c ∷ []))
    more_held f = rw (length-append family (c ∷ []), ← e) (a.stored room.literals room.clauses family counted f)
