-- The tables of what a counter has, by its number of inputs.
use Rattle.std.specs.Prelude.{List, map, ℕ}
use Rattle.paper.specs.Clauses.{from}

-- The entries of a count, 0 to 64.
unfoldable pub table_of : (ℕ → ℕ) → List ℕ
table_of count = map count (from 0 65)
