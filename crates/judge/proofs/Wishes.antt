-- Rooms that hold the wishes of a session, a turn over them, and that what they cost fits 32 bits.
use mathlib.Core.Path.{◌≡◌}
use mathlib.Core.Bool.{Bool, true, false, not}
use mathlib.Core.List.{List, [], ◌∷◌, map}
use Prim.Native.Nat.{ℕ, ◌+◌, ◌*◌, ◌-◌, ◌^◌, ◌<◌, ◌≤◌}
use native.Mathlib.Numerals.{add-one}
use native.Mathlib.Omega.{arith}
use lib.Dec.{leb}
use lib.IntN.{ℤ}
use lib.ListN.{length, drop, get_or, replicate, length-map, length-append, get_or-append, get_or-map}
use lib.Seq.{drop-cons}
use borrow.Author.Tests.{leb-true}
use Rattle.paper.specs.Sizes.{wish_room, most_weight}
use Rattle.paper.specs.Clauses.{Clause, Truth, clause_true, every, only}
use Rattle.paper.specs.Session.{Wish, Session, no_wish}
use Rattle.paper.specs.Truth.{cost, cost_of}
use Rattle.paper.specs.Runs.{Reached}
use Rattle.paper.proofs.Lists.{and_split}
use Rattle.paper.proofs.Costs.{reached_sound}
use Rattle.clauses.specs.Family.{Holds}
use Rattle.rooms.specs.Held.{weights_room, HeldWishes}

-- The clauses of literals, which are the family in the rooms.
abbrev literals_of : List Wish → List Clause
literals_of = map (λ x. x.literals)

abbrev weights_of : List Wish → List ℕ
weights_of = map (λ x. x.weight)

module _ {s : Session} {literals : List ℤ} {ends weights : List ℕ} {count : ℕ}
    (counts : count ≡ length s.sheet.wishes) (H : HeldWishes literals ends weights s) where
  pub held : Holds wish_room.literals wish_room.clauses literals ends count (literals_of s.sheet.wishes)
  held = rw (counts, ← length-map s.sheet.wishes (λ (x : Wish). x.literals)) H.clauses

  pub enough : count ≤ length weights
  unfolding weights_room
  enough =
      rw H.weights_are (omega (
        arith,
        length-append (weights_of s.sheet.wishes) (replicate (wish_room.clauses - length s.sheet.wishes) 0),
        length-map s.sheet.wishes (λ (x : Wish). x.weight),
      ))

  weight_at_lem : (i : ℕ) → i < count → get_or weights i 0 ≡ (get_or s.sheet.wishes i no_wish).weight
  unfolding weights_room
  weight_at_lem i h =
      let k : i < length (weights_of s.sheet.wishes) = omega (arith, length-map s.sheet.wishes (λ (x : Wish). x.weight)) in
      rw (
        H.weights_are,
        get_or-append (weights_of s.sheet.wishes) _ 0 i k,
        get_or-map (λ (x : Wish). x.weight) s.sheet.wishes i no_wish,
      )

  -- A turn: what is known of the cost, by whether the clause that was read is true.
  pub wishes_turn : (t : Truth) (i sum : ℕ) (read : Bool) → i < count
      → read ≡ clause_true t (get_or (literals_of s.sheet.wishes) i [])
      → sum + cost_of t (drop i s.sheet.wishes) ≡ cost s.sheet t
      → sum + (only (not read) (get_or weights i 0) + cost_of t (drop (i + 1) s.sheet.wishes)) ≡ cost s.sheet t
  wishes_turn t i sum read h e whole =
      let k : i < length s.sheet.wishes = omega arith in
      rw (
        e,
        ← whole,
        weight_at_lem i h,
        get_or-map (λ (x : Wish). x.literals) s.sheet.wishes i no_wish,
        add-one,
        drop-cons s.sheet.wishes i no_wish,
      )

-- ── The cost of a reached session fits 32 bits ──

only_most : (b : Bool) (w : ℕ) → only b w ≤ w
only_most true w = omega arith
only_most false w = omega arith

cost_most : (t : Truth) (wishes : List Wish) → every (λ (x : Wish). leb x.weight most_weight) wishes ≡ true
    → cost_of t wishes ≤ most_weight * length wishes
cost_most t [] e = omega arith
cost_most t (x ∷ xs) e =
    let k = and_split (leb x.weight most_weight) _ e in
    omega (
      arith,
      leb-true x.weight most_weight k.0,
      cost_most t xs k.1,
      only_most (not (clause_true t x.literals)) x.weight,
    )

pub cost_fits : (s : Session) → Reached s → (t : Truth) → cost s.sheet t < 2 ^ 32
cost_fits s r t =
    let sound = reached_sound s r in
    let few = sound.few in
    omega (arith, cost_most t s.sheet.wishes sound.light)
