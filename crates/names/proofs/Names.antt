-- What a derived clause and its hints may name, by what the code asks: a counter variable by dividing, a counter's size by its
-- room, a clause or a list of hints element by element; and each variable that is named has a place in rooms of zeros.
use mathlib.Core.Path.{◌≡◌, refl, sym, ◌∙◌, ap}
use mathlib.Core.Bool.{Bool, true, false, ◌&&◌, or-false}
use mathlib.Core.List.{List, [], ◌∷◌, map}
use Prim.Native.Nat.{ℕ, zero, suc, ◌+◌, ◌-◌, ◌<◌, ◌≤◌, ◌/◌, ◌%◌}
use native.Mathlib.Omega.{arith}
use native.Mathlib.Nat.{div-eq_of_lt, mod-eq_of_lt, div-eq-sub-div, mod-eq-sub-mod}
use lib.Dec.{ltb}
use lib.IntN.{ℤ, pos}
use lib.ListN.{length, drop, get_or, length-map, get_or-map}
use lib.Seq.{drop-length}
use Rattle.std.proofs.lemmas.Bool.Decides.{nat_tests}
use borrow.Author.Tests.{ltb-true, ltb-false, le-ltb, le-leb, lt-leb}
use Rattle.paper.specs.Sizes.{first_wish, wish_variable, first_counter}
use Rattle.paper.specs.declared.Width.{Width}
use Rattle.paper.specs.Clauses.{variable, every}
use Rattle.paper.specs.Counters.{Tree, tree_of, variables}
use Rattle.paper.specs.Session.{Counter, Session, no_counter, problem_literal, named_literal, in_counters}
use Rattle.paper.specs.Runs.{Reached}
use Rattle.paper.proofs.Trees.{Fits, variables_room}
use Rattle.paper.proofs.Truths.{Ordered}
use Rattle.paper.proofs.Bounds.{named_below}
use Rattle.paper.proofs.Costs.{reached_sound}
use Rattle.paper.proofs.Reach.{reached_narrow}
use Rattle.variables.proofs.Every.{every_from}
use Rattle.rooms.specs.Held.{Zeros, inputs_of}
use Rattle.names.specs.Names.{in_counter}

-- A place that stands so far past a start.
same_test : (start n v : ℕ) → start ≤ v → ltb v (start + n) ≡ ltb (v - start) n
same_test start n v h = grind (arith, nat_tests)

-- ── Counter variables ──

before_counters : (stride : ℕ) (xs : List Counter) (start v : ℕ) → v < start → in_counters stride xs start v ≡ false
before_counters stride [] start v h = refl
before_counters stride (x ∷ xs) start v h = rw (lt-leb start v h) (before_counters stride xs (start + stride) v (omega arith))

in_counters_is : (u : Width) → Fits u → 0 < u.stride → (xs : List Counter) (start v : ℕ) → Ordered u start xs → start ≤ v
    → in_counters u.stride xs start v ≡ in_counter u xs (v - start)
in_counters_is u ft some [] start v o h = rw (le-ltb ((v - start) % u.stride) 0 (omega arith))
in_counters_is u ft some (x ∷ xs) start v o h =
    go (ltb (v - start) u.stride) refl (in_counters_is u ft some xs (start + u.stride) v o.4)
  where
    room : variables (tree_of x.inputs) ≤ u.stride
    room = variables_room u ft x.inputs o.1

    go : (b : Bool) → ltb (v - start) u.stride ≡ b
        → (start + u.stride ≤ v → in_counters u.stride xs (start + u.stride) v ≡ in_counter u xs (v - (start + u.stride)))
        → in_counters u.stride (x ∷ xs) start v ≡ in_counter u (x ∷ xs) (v - start)
    go true e ih =
        let k : v - start < u.stride = ltb-true _ _ e in
        rw (
          div-eq_of_lt k,
          mod-eq_of_lt k,
          le-leb start v h,
          before_counters u.stride xs (start + u.stride) v (omega arith),
        )
        (or-false _ ∙ same_test start (variables (tree_of x.inputs)) v h)
    go false e ih =
        let k : u.stride ≤ v - start = ltb-false _ _ e in
        let back : v - (start + u.stride) ≡ v - start - u.stride = omega arith in
        let q : (v - start) / u.stride ≡ suc ((v - start - u.stride) / u.stride)
        = (let d = div-eq-sub-div {m = u.stride} {n = v - start} some k in omega arith) in
        rw (
          le-leb start v h,
          le-ltb v (start + variables (tree_of x.inputs)) (omega (arith, room)),
          ih (omega arith),
          back,
          q,
          mod-eq-sub-mod k,
        )

-- ── Literals ──

module _ (s : Session) (r : Reached s) (l : ℤ) where
  no_counter_lem : variable l < first_counter
      → in_counters s.sheet.width.stride s.work.counters first_counter (variable l) ≡ false
  no_counter_lem = before_counters s.sheet.width.stride s.work.counters first_counter (variable l)

  pub problem_name : variable l < first_wish → named_literal s.sheet s.work l ≡ problem_literal s.sheet.variables l
  problem_name h = rw (lt-leb first_wish (variable l) h, no_counter_lem (omega arith)) (or-false _)

  not_problem : first_wish ≤ variable l → problem_literal s.sheet.variables l ≡ false
  not_problem h =
      let small = (reached_sound s r).small in
      rw (le-leb 1 (variable l) (omega arith), lt-leb (variable l) s.sheet.variables (omega arith))

  pub wish_name : first_wish ≤ variable l → variable l < first_counter
      → named_literal s.sheet s.work l ≡ ltb (variable l - first_wish) (length s.sheet.wishes)
  wish_name h k =
      rw (not_problem h, le-leb first_wish (variable l) h, no_counter_lem k)
      (or-false _ ∙ same_test first_wish (length s.sheet.wishes) (variable l) h)

  pub counter_name : first_counter ≤ variable l
      → named_literal s.sheet s.work l ≡ in_counter s.sheet.width s.work.counters (variable l - first_counter)
  counter_name h =
      let k = reached_sound s r in
      let few = k.few in
      let wide : 0 < s.sheet.width.stride = rw (reached_narrow s r) (omega arith) in
      rw (
        not_problem (omega arith),
        le-leb first_wish (variable l) (omega arith),
        le-ltb (variable l) (wish_variable (length s.sheet.wishes)) (omega arith),
      )
      (in_counters_is s.sheet.width k.fits wide s.work.counters first_counter (variable l) k.ordered h)

-- ── Counters in their room ──

ordered_short : (u : Width) (xs : List Counter) (start : ℕ) → Ordered u start xs → (c : ℕ)
    → length (get_or xs c no_counter).inputs ≤ u.literals
ordered_short u [] start o c = omega arith
ordered_short u (x ∷ xs) start o zero = o.1
ordered_short u (x ∷ xs) start o (suc c) = ordered_short u xs (start + u.stride) o.4 c

-- What a table gives for the size of a counter, which the room tells, is so of the counter, present or absent.
pub by_size : (count : Tree → ℕ) (table : ℕ → ℕ) → ((xs : List ℕ) → count (tree_of xs) ≡ table (length xs))
    → (s : Session) → Reached s → (c size found : ℕ) → size ≡ length (get_or (map inputs_of s.work.counters) c [])
    → (size ≤ 64 → found ≡ table size) → found ≡ count (tree_of (get_or s.work.counters c no_counter).inputs)
by_size count table law s r c size found e f =
    let xs : List ℕ = (get_or s.work.counters c no_counter).inputs in
    let k : size ≡ length xs
    = e ∙ ap length (get_or-map inputs_of s.work.counters c no_counter) ∙ length-map xs pos in
    let ordered = (reached_sound s r).ordered in
    let short : length xs ≤ 64
    = rw (reached_narrow s r) at (ordered_short s.sheet.width s.work.counters first_counter ordered c) in
    f (omega arith) ∙ ap table k ∙ sym (law xs)

-- ── Loops over a slice ──

module _ {A : Type 0} (p : A → Bool) (xs : List A) (i : ℕ) (left : every p (drop i xs) ≡ every p xs) where
  -- What a turn finds of its element, with what is still to be read, decides as the whole slice does.
  pub turn : (d : A) (found : Bool) → i < length xs → found ≡ p (get_or xs i d) → (found && every p (drop (i + 1) xs)) ≡ every p xs
  turn d found h e = rw (e, ← every_from p xs i d h) left

  pub ended : i ≡ length xs → true ≡ every p xs
  ended h = rw (h, drop-length xs) at left

-- ── Places for what is named ──

-- The variables that are named have a place in rooms of zeros.
pub named_within : (s : Session) → Reached s → (room : List ℕ) (zeros : Zeros s.sheet.width room) (l : ℤ)
    → named_literal s.sheet s.work l ≡ true → variable l < zeros.size
named_within s r room zeros l n =
    let k = reached_sound s r in
    let few = k.few in
    let b = named_below s.sheet s.work k.fits k.small (omega arith) k.few_counters k.ordered l n in
    omega (arith, zeros.enough, ltb-true (variable l) _ b)
