-- "Counters": the tree over a core's members, its variables and its clauses. `start` is the number of a tree's first variable.
use Rattle.std.specs.Prelude.{true, false, List, [], ◌∷◌, ◌++◌, ℕ, zero, suc, ◌+◌, ◌*◌, ◌-◌, ◌/◌, ◌%◌, pos, negsuc, ltb, length, take, drop, get_or}
use Rattle.paper.specs.Clauses.{Clause, pick, from}

pub data Tree : Type 0 where
  input : ℕ → Tree
  node : Tree → Tree → Tree

-- The first floor(m/2) inputs go left and the others right, down to single inputs. The first number bounds the depth.
abbrev pub halved : ℕ → List ℕ → Tree
halved zero xs = input (get_or xs 0 0)
halved (suc depth) xs =
    elim (ltb 1 (length xs)) [
      | true ↦ node (halved depth (take (length xs / 2) xs)) (halved depth (drop (length xs / 2) xs))
      | false ↦ input (get_or xs 0 0)
    ]

abbrev pub tree_of : List ℕ → Tree
tree_of xs = halved (length xs) xs

abbrev pub inputs : Tree → ℕ
inputs (input v) = 1
inputs (node l r) = inputs l + inputs r

-- A node has an output for each of its inputs; a single input has no variable of its own.
abbrev pub variables : Tree → ℕ
variables (input v) = 0
variables (node l r) = inputs l + inputs r + (variables l + variables r)

-- The node's outputs in order, then the left part's variables, then the right part's.
abbrev pub left_start : Tree → Tree → ℕ → ℕ
left_start l r start = start + (inputs l + inputs r)

abbrev pub right_start : Tree → Tree → ℕ → ℕ
right_start l r start = start + (inputs l + inputs r) + variables l

-- The variable of output k + 1: a single input is its own output 1.
abbrev pub output : Tree → ℕ → ℕ → ℕ
output (input v) start k = v
output (node l r) start k = start + k

abbrev pub previous : ℕ → ℕ
previous zero = 0
previous (suc n) = n

-- "not output k", for k above 0.
abbrev pub unless : (ℕ → ℕ) → ℕ → Clause → Clause
unless out zero rest = rest
unless out (suc k) rest = negsuc (previous (out k)) ∷ rest

-- Not left output a, not right output b, output a + b.
abbrev pub sum_clause : (ℕ → ℕ) → (ℕ → ℕ) → (ℕ → ℕ) → ℕ → ℕ → Clause
sum_clause left right own a b = unless left a (unless right b (pos (own (previous (a + b))) ∷ []))

abbrev pub node_clause : Tree → Tree → ℕ → ℕ → ℕ → Clause
node_clause l r start = sum_clause (output l (left_start l r start)) (output r (right_start l r start)) (λ k. start + k)

-- For a = 0..p and inside it b = 0..q, without a = b = 0: a row is the n clauses of one a from b on.
abbrev pub row : Tree → Tree → ℕ → ℕ → ℕ → ℕ → List Clause
row l r start a b zero = []
row l r start a b (suc n) = node_clause l r start a b ∷ row l r start a (suc b) n

abbrev pub rows : Tree → Tree → ℕ → ℕ → ℕ → List Clause
rows l r start a zero = []
rows l r start a (suc n) = row l r start a 0 (suc (inputs r)) ++ rows l r start (suc a) n

abbrev pub node_clauses : Tree → Tree → ℕ → List Clause
node_clauses l r start = row l r start 0 1 (inputs r) ++ rows l r start 1 (inputs l)

-- All clauses in their order: the node's, then the left part's, then the right part's.
abbrev pub all_clauses : Tree → ℕ → List Clause
all_clauses (input v) start = []
all_clauses (node l r) start = node_clauses l r start ++ (all_clauses l (left_start l r start) ++ all_clauses r (right_start l r start))

-- How many these are.
abbrev pub own_clauses : ℕ → ℕ → ℕ
own_clauses p q = p + q + p * q

abbrev pub clauses : Tree → ℕ
clauses (input v) = 0
clauses (node l r) = own_clauses (inputs l) (inputs r) + (clauses l + clauses r)

-- Clause i, found by the halves; empty where there is none.
abbrev pub clause_at : Tree → ℕ → ℕ → Clause
clause_at (input v) start i = []
clause_at (node l r) start i =
    pick (ltb i (own_clauses (inputs l) (inputs r))) (node_clause l r start (suc i / suc (inputs r)) (suc i % suc (inputs r)))
    (pick (ltb (i - own_clauses (inputs l) (inputs r)) (clauses l)) (clause_at l (left_start l r start) (i - own_clauses (inputs l) (inputs r)))
    (clause_at r (right_start l r start) (i - own_clauses (inputs l) (inputs r) - clauses l)))

-- The two tables, by the number of inputs.
abbrev pub variables_of : ℕ → ℕ
variables_of m = variables (tree_of (from 1 m))

abbrev pub clauses_of : ℕ → ℕ
clauses_of m = clauses (tree_of (from 1 m))
