-- Marks that are taken away again, and what fresh marks tell of a clause whose variables have a place in a room of zeros.
use mathlib.Core.Path.{◌≡◌, refl, sym, ap, ◌∙◌}
use mathlib.Core.Bool.{Bool, true, false, not, ◌&&◌, ◌||◌, not-not, and-true, and-false}
use mathlib.Core.List.{List, [], ◌∷◌, ◌++◌}
use mathlib.Core.Logic.{◌≢◌}
use Prim.Native.Nat.{ℕ, zero, suc, ◌+◌, ◌-◌, ◌<◌, ◌≤◌}
use native.Mathlib.Numerals.{add-one}
use native.Mathlib.Omega.{arith}
use lib.Dec.{eqb}
use lib.IntN.{ℤ, pos}
use lib.ListN.{length, take, drop, get_or, get_or-append, set, replicate, length-set, length-replicate}
use lib.Seq.{drop-cons, get_or-set_same, get_or-set_other}
use Rattle.std.specs.List.{slice_range}
use Rattle.std.proofs.lemmas.List.{length-take-le, take-append-drop, length_push, get_or_push}
use borrow.Author.Tests.{eqb-true, eqb-false, ltb-true, lt-ltb}
use Rattle.paper.specs.Clauses.{Clause, variable, every, has_variable, variable_twice}
use Rattle.paper.specs.Derivation.{unassigned, assign}
use Rattle.paper.proofs.Lists.{and_split, every-mono}
use Rattle.clauses.proofs.Lists.{get_d_same}
use Rattle.values.specs.Values.{placed}
use Rattle.marks.specs.Marks.{fresh, unmarked}
use Rattle.values.specs.Values.{literal_in, assigned_in}
use Rattle.values.proofs.Values.{set_back, assigned_back}

-- ── One literal more, and one less ──

module _ (room : List ℕ) (c : Clause) (i : ℕ) where
  pub unmarked_more : (v : ℕ) → v ≡ variable (get_or c i (pos 0)) → get_or room v 0 ≡ 0
      → unmarked (set room v 1) c (i + 1) ≡ unmarked room c i
  unmarked_more v e z = rw add-one (ap (λ (w : List ℕ). unmarked w c i) (rw (← e) (set_back room v 1 z)))

  pub fresh_more : (v : ℕ) → v ≡ variable (get_or c i (pos 0)) → i < length c → get_or room v 0 ≡ 0
      → fresh (set room v 1) (drop (i + 1) c) ≡ fresh room (drop i c)
  fresh_more v e h z = rw (drop-cons c i (pos 0), add-one, ← e, z)

-- What stands behind the first so many does not show.
unmarked_front : (room : List ℕ) (xs ys : Clause) (i : ℕ) → i ≤ length xs → unmarked room (xs ++ ys) i ≡ unmarked room xs i
unmarked_front room xs ys zero h = refl
unmarked_front room xs ys (suc i) h =
    rw (get_or-append xs ys (pos 0) i (omega arith))
    (unmarked_front (set room (variable (get_or xs i (pos 0))) 0) xs ys i (omega arith))

-- The first so many by themselves.
pub unmarked_part : (room : List ℕ) (c : Clause) (i : ℕ) (part : Clause) → part ≡ slice_range c 0 i → i ≤ length c
    → unmarked room part (length part) ≡ unmarked room c i
unmarked_part room c i part e h =
    let long = length-take-le i c h in
    let none : i - 0 ≡ i = omega arith in
    let front = unmarked_front room (take i c) (drop i c) i (omega arith) in
    rw (e, none, long) (sym (rw (take-append-drop i c) at front))

-- The last one is taken away first.
pub unmarked_last : (room after : List ℕ) (c left : Clause) (l : ℤ) → c ≡ left ++ (l ∷ []) → after ≡ set room (variable l) 0
    → unmarked after left (length left) ≡ unmarked room c (length c)
unmarked_last room after c left l e f =
    let back : set room (variable (get_or (left ++ (l ∷ [])) (length left) (pos 0))) 0 ≡ after
    = rw (get_or_push left l (pos 0) (length left) refl) (sym f) in
    rw (e, length_push left l, add-one)
    (sym (ap (λ (w : List ℕ). unmarked w (left ++ (l ∷ [])) (length left)) back ∙ unmarked_front after left (l ∷ []) (length left) (omega arith)))

-- What is noted from a place on does not show below it.
unmarked_below : (room : List ℕ) (trail : Clause) (k : ℕ) (l : ℤ) (i : ℕ) → i ≤ k
    → unmarked room (set trail k l) i ≡ unmarked room trail i
unmarked_below room trail k l zero h = refl
unmarked_below room trail k l (suc i) h =
    rw (get_or-set_other trail k i l (pos 0) (λ e. omega arith))
    (unmarked_below (set room (variable (get_or trail i (pos 0))) 0) trail k l i (omega arith))

-- A literal that is assigned and noted next on a trail.
pub unmarked_next : (room : List ℕ) (trail : Clause) (count : ℕ) (l : ℤ) (b : Bool) → count < length trail
    → literal_in room l ≡ unassigned
    → unmarked (assigned_in room (assign l b)) (set trail count l) (count + 1) ≡ unmarked room trail count
unmarked_next room trail count l b h unset =
    let back : set (assigned_in room (assign l b)) (variable (get_or (set trail count l) count (pos 0))) 0 ≡ room
    = rw (get_or-set_same trail count l (pos 0) h) (assigned_back room l b unset) in
    rw add-one
    (ap (λ (w : List ℕ). unmarked w (set trail count l) count) back ∙ unmarked_below room trail count l count (omega arith))

-- ── What fresh marks tell ──

abbrev unmarked_at : List ℕ → ℤ → Bool
unmarked_at room l = eqb (get_or room (variable l) 0) 0

-- A mark at v takes the literals of v out.
mark_at : (room : List ℕ) (v : ℕ) (l : ℤ) → v < length room
    → unmarked_at (set room v 1) l ≡ (unmarked_at room l && not (eqb v (variable l)))
mark_at room v l h = go (eqb v (variable l)) refl (unmarked_at room l) refl
  where
    go : (b : Bool) → eqb v (variable l) ≡ b → (a : Bool) → unmarked_at room l ≡ a → unmarked_at (set room v 1) l ≡ (a && not b)
    go true e a f =
        let same : v ≡ variable l = eqb-true v (variable l) e in
        rw (← same, get_or-set_same room v 1 0 h) (sym (and-false a))
    go false e a f =
        let other : variable l ≢ v = (λ d. eqb-false v (variable l) e (sym d)) in
        rw (get_or-set_other room v (variable l) 1 0 other) (f ∙ sym (and-true a))

two_and_two : (a b c d : Bool) → ((a && not b) && (c && not d)) ≡ ((a && c) && not (b || d))
two_and_two false b c d = refl
two_and_two true false c d = refl
two_and_two true true true d = refl
two_and_two true true false d = refl

one_and_three : (a b c d : Bool) → (a && ((b && not c) && not d)) ≡ ((a && b) && not (c || d))
one_and_three false b c d = refl
one_and_three true false c d = refl
one_and_three true true true d = refl
one_and_three true true false d = refl

mark_in : (room : List ℕ) (v : ℕ) (c : Clause) → v < length room
    → every (unmarked_at (set room v 1)) c ≡ (every (unmarked_at room) c && not (has_variable v c))
mark_in room v [] h = refl
mark_in room v (l ∷ c) h =
    rw (mark_at room v l h, mark_in room v c h)
    (two_and_two (unmarked_at room l) (eqb v (variable l)) (every (unmarked_at room) c) (has_variable v c))

fresh_is : (room : List ℕ) (c : Clause) → every (placed (length room)) c ≡ true
    → fresh room c ≡ (every (unmarked_at room) c && not (variable_twice c))
fresh_is room [] e = refl
fresh_is room (l ∷ c) e =
    let parts = and_split (placed (length room) l) (every (placed (length room)) c) e in
    let v : ℕ = variable l in
    rw (fresh_is (set room v 1) c (rw (length-set room v 1) parts.1), mark_in room v c (ltb-true v (length room) parts.0))
    (one_and_three (unmarked_at room l) (every (unmarked_at room) c) (has_variable v c) (variable_twice c))

zeros_unmarked : (size : ℕ) (c : Clause) → every (unmarked_at (replicate size 0)) c ≡ true
zeros_unmarked size [] = refl
zeros_unmarked size (l ∷ c) = rw (get_d_same {A = ℕ} 0 size (variable l), zeros_unmarked size c)

-- In a room of zeros the marks are fresh exactly where no variable stands twice.
pub fresh_zeros : (size : ℕ) (c : Clause) → every (placed size) c ≡ true → fresh (replicate size 0) c ≡ not (variable_twice c)
fresh_zeros size c e = rw (fresh_is (replicate size 0) c (rw (length-replicate {A = ℕ} size 0) e), zeros_unmarked size c)

-- What is found of a clause in a room of zeros with a place for each variable that is named.
pub twice_told : (size : ℕ) (room : List ℕ) (named : ℤ → Bool) (c : Clause) (found : Bool) → found ≡ fresh room c
    → room ≡ replicate size 0 → ((l : ℤ) → named l ≡ true → variable l < size) → every named c ≡ true
    → variable_twice c ≡ not found
twice_told size room named c found e zeros within all =
    let places = every-mono named (placed size) c (λ l n. lt-ltb (variable l) size (within l n)) all in
    rw (e, zeros, fresh_zeros size c places) (sym (not-not (variable_twice c)))
