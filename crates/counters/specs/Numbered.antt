-- The clauses of a counter by number, as this crate hands them out.
use Rattle.std.specs.Prelude.{◌≡◌, ◌&&◌, [], ◌++◌, map, ℕ, ◌+◌, ◌-◌, ◌/◌, ◌≤◌, ◌<◌, leb, pos, length, take, drop, replicate}
use Rattle.paper.specs.Clauses.{Clause, variable, pick}
use Rattle.paper.specs.Counters.{Tree, tree_of, own_clauses, clause_at, variables_of}
use Rattle.counters.specs.declared.Node.{Node}
use Rattle.counters.specs.declared.Three.{Three}

-- The counter whose inputs are the variables of some literals.
unfoldable pub counter_of : Clause → Tree
counter_of literals = tree_of (map variable literals)

-- None for more than 64 inputs, nor for a first variable above 1,000,000, so that every variable is a 32-bit literal.
abbrev pub numbered : Clause → ℕ → ℕ → Clause
numbered literals start number =
    pick (leb (length literals) 64 && leb start 1000000) (clause_at (counter_of literals) start number) []

-- The entries are the clause and then zeros.
pub record Holds (room : Three) (clause : Clause) : Type 0 where
  pub few : room.length ≤ 3
  pub whole : take room.length room.literals ≡ clause
  pub padded : room.literals ≡ clause ++ replicate (3 - length clause) (pos 0)

-- What the search for a clause by the halves finds, of a part of a counter: a node, where its inputs begin, how many they are, its
-- first variable, and the clause's number, which is of the node's own unless it is a single input.
pub record Found (whole node : Node) : Type 0 where
  pub fewer : node.size ≤ whole.size
  pub inside : node.from + node.size ≤ whole.from + whole.size
  pub room : node.start + variables_of node.size ≤ whole.start + variables_of whole.size
  pub own : 1 < node.size → node.number < own_clauses (node.size / 2) (node.size - node.size / 2)
  pub same :
      (xs : Clause) → whole.from + whole.size ≤ length xs
      → clause_at (counter_of (take whole.size (drop whole.from xs))) whole.start whole.number
      ≡ clause_at (counter_of (take node.size (drop node.from xs))) node.start node.number
