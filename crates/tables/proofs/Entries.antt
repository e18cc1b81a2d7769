-- The rule of a table, once for any table: what stands in the list of what f gives. The check computes that list and holds the
-- whole table to it.
use mathlib.Core.Path.{◌≡◌, ap, ◌∙◌}
use mathlib.Core.List.{map}
use Prim.Native.Nat.{ℕ, zero, suc, ◌+◌, ◌<◌, ◌≤◌}
use native.Mathlib.Omega.{arith}
use lib.ListN.{get_or}
use Rattle.paper.specs.Clauses.{from}
use Rattle.tables.specs.Tables.{table_of}

at_place : (f : ℕ → ℕ) (a n k : ℕ) → k < n → get_or (map f (from a n)) k 0 ≡ f (a + k)
at_place f a zero k h = absurd (omega arith)
at_place f a (suc n) zero h = ap f (omega arith)
at_place f a (suc n) (suc k) h = at_place f (suc a) n k (omega arith) ∙ ap f (omega arith)

entry : (f : ℕ → ℕ) (n k : ℕ) → k < n → get_or (map f (from 0 n)) k 0 ≡ f k
entry f n k h = at_place f 0 n k h ∙ ap f (omega arith)

pub table_entry : (f : ℕ → ℕ) (k : ℕ) → k ≤ 64 → get_or (table_of f) k 0 ≡ f k
unfolding table_of
table_entry f k h = entry f 65 k (omega arith)
