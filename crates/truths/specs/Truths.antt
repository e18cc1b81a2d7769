-- How many of some bytes stand for true.
use Rattle.std.specs.Prelude.{List, [], ◌∷◌, ℕ, ◌+◌, ltb}
use Rattle.paper.specs.Clauses.{only}

-- Any byte but 0 stands for true.
abbrev pub bit_of : ℕ → ℕ
bit_of byte = only (ltb 0 byte) 1

unfoldable pub true_bytes : List ℕ → ℕ
true_bytes [] = 0
true_bytes (x ∷ xs) = bit_of x + true_bytes xs
