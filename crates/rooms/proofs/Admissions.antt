-- Which of 16, 17 and 18 a rule or a wish gets. `t` is the tally at entry.
use mathlib.Core.Path.{◌≡◌, sym, ap}
use mathlib.Core.List.{List}
use Prim.Native.Nat.{ℕ, ◌<◌}
use native.Mathlib.Omega.{arith}
use lib.ListN.{replicate}
use Rattle.paper.specs.Sizes.{narrow}
use Rattle.paper.specs.declared.Width.{Width}
use Rattle.paper.specs.declared.Tally.{Tally}
use Rattle.paper.specs.Clauses.{Clause}
use Rattle.paper.specs.Session.{Session, tally_of, problem_literal}
use Rattle.paper.specs.Steps.{admission}
use Rattle.paper.specs.Runs.{Reached}
use Rattle.paper.proofs.Reach.{reached_narrow}
use Rattle.paper.proofs.Costs.{reached_sound}
use Rattle.clauses.specs.Lowest.{lowest}
use Rattle.rooms.specs.Held.{Zeros}

-- What is said over rooms of zeros of any width is said of the session's.
pub number_is : (s : Session) (t : Tally) → t ≡ tally_of s → Reached s → (values : List ℕ) → Zeros narrow values → (most k : ℕ) (c : Clause)
    → most ≡ narrow.literals
    → ((size : ℕ) (u : Width) → values ≡ replicate size 0 → t.variables < size → u.literals ≡ most
    → k ≡ lowest (admission u (problem_literal t.variables) c))
    → k ≡ lowest (admission s.sheet.width (problem_literal s.sheet.variables) c)
number_is s t eq r values z most k c e f =
    let small = (reached_sound s r).small in
    let q = ap (λ (x : Tally). x.variables) eq in
    let n = z.enough in
    rw (reached_narrow s r, ← q) (f z.size narrow z.are (omega arith) (sym e))
