-- The clause that a hint names, from the parts of the hint and from what the rooms hold.
use mathlib.Core.Path.{◌≡◌, refl, sym, ap, ◌∙◌}
use mathlib.Core.Bool.{true}
use mathlib.Core.List.{List, [], ◌∷◌, map}
use Prim.Native.Nat.{ℕ, zero, suc, ◌*◌, ◌+◌, ◌<◌, ◌≤◌}
use native.Mathlib.Omega.{arith}
use lib.Dec.{leb}
use lib.IntN.{ℤ, pos}
use lib.ListN.{length, get_or, length-map}
use borrow.Author.Tests.{ltb-true, le-leb}
use Rattle.paper.specs.Sizes.{first_counter, counter_start}
use Rattle.paper.specs.declared.Width.{Width}
use Rattle.paper.specs.Clauses.{Clause, variable, every}
use Rattle.paper.specs.Counters.{tree_of, clause_at}
use Rattle.paper.specs.Session.{Counter, Session, no_counter, hint_named}
use Rattle.paper.specs.Session.{of_counter}
use Rattle.paper.specs.Runs.{Reached}
use Rattle.paper.specs.declared.Reading.{Reading}
use Rattle.paper.proofs.Truths.{Ordered}
use Rattle.paper.proofs.Invariant.{there}
use Rattle.paper.proofs.Costs.{reached_sound}
use Rattle.paper.proofs.Reach.{reached_narrow}
use Rattle.clauses.specs.Family.{Holds}
use Rattle.counters.specs.Numbered.{counter_of, numbered}
use Rattle.readings.specs.Readings.{read_in}
use Rattle.readings.proofs.Readings.{forced}
use Rattle.hints.specs.Hinted.{ForcesOpen}

-- ── Open literals ──

anything : (c : Clause) → every (λ l. true) c ≡ true
anything [] = refl
anything (l ∷ c) = anything c

pub forces_open : (room : List ℕ) (c : Clause) (r : Reading) → r ≡ read_in room c → ForcesOpen room r
forces_open room c r e l f = (forced room (λ k. true) c l (anything c) (sym e ∙ f)).1

-- ── Families ──

-- Rooms that hold a family hold it with any count that is its length.
pub counted : {size most count : ℕ} {literals : List ℤ} {ends : List ℕ} {family : List Clause}
    → Holds size most literals ends (length family) family → count ≡ length family → Holds size most literals ends count family
counted H e = rw e H

-- ── Counters ──

ordered_inputs : (u : Width) (xs : List Counter) (start : ℕ) → Ordered u start xs → (c : ℕ) → c < length xs
    → length (get_or xs c no_counter).inputs ≤ u.literals
ordered_inputs u [] start o c h = absurd (omega arith)
ordered_inputs u (x ∷ xs) start o zero h = o.1
ordered_inputs u (x ∷ xs) start o (suc c) h = ordered_inputs u xs (start + u.stride) o.4 c (omega arith)

variables_back : (xs : List ℕ) → map variable (map pos xs) ≡ xs
variables_back [] = refl
variables_back (x ∷ xs) = ap (λ (ys : List ℕ). x ∷ ys) (variables_back xs)

-- Within the sizes of a session a counter's clauses are handed out as the paper has them.
pub numbered_is : (s : Session) → Reached s → (c i : ℕ) → hint_named s.sheet s.work (of_counter c i) ≡ true
    → let xs = (get_or s.work.counters c no_counter).inputs in
    numbered (map pos xs) (counter_start s.sheet.width c) i ≡ clause_at (tree_of xs) (counter_start s.sheet.width c) i
unfolding counter_of
numbered_is s r c i e =
    let xs = (get_or s.work.counters c no_counter).inputs in
    let sound = reached_sound s r in
    let narrow-is = reached_narrow s r in
    let h = there s.work.counters c i (ltb-true _ _ e) in
    let few : length xs ≤ s.sheet.width.literals
    = ordered_inputs s.sheet.width s.work.counters first_counter sound.ordered c h in
    let counters = sound.few_counters in
    let literals_are : s.sheet.width.literals ≡ 64 = ap (λ (u : Width). u.literals) narrow-is in
    let counters_are : s.sheet.width.counters ≡ 128 = ap (λ (u : Width). u.counters) narrow-is in
    let stride-is : s.sheet.width.stride ≡ 384 = ap (λ (u : Width). u.stride) narrow-is in
    let short : leb (length (map pos xs)) 64 ≡ true = rw (length-map xs pos) (le-leb (length xs) 64 (omega arith)) in
    let low : leb (counter_start s.sheet.width c) 1000000 ≡ true
    = rw stride-is (le-leb (first_counter + 384 * c) 1000000 (omega arith)) in
    rw (short, low, variables_back xs)
