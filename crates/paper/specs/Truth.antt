-- What is true of an arrangement, and what it costs.
use Rattle.std.specs.Prelude.{Bool, false, not, ◌&&◌, List, [], ◌∷◌, ℕ, zero, suc, ◌+◌, ◌-◌, ◌/◌, ◌%◌, ◌^◌, get_or, leb, ltb, eqb}
use Rattle.paper.specs.Sizes.{first_wish, first_counter}
use Rattle.paper.specs.Clauses.{Truth, clause_true, every, only, pick}
use Rattle.paper.specs.Counters.{Tree, input, node, inputs, variables, tree_of}
use Rattle.paper.specs.Session.{Wish, Counter, Sheet, Work}

-- An arrangement in bytes: variable v is bit (v - 1) mod 8 of byte floor((v - 1) / 8).
abbrev pub arranged : List ℕ → Truth
arranged bytes v = eqb (get_or bytes ((v - 1) / 8) 0 / 2 ^ ((v - 1) % 8) % 2) 1

-- The arrangement meets all rules.
abbrev pub meets : Sheet → Truth → Bool
meets S a = every (clause_true a) S.rules

-- The summed weight of the wishes that it breaks.
abbrev pub cost_of : Truth → List Wish → ℕ
cost_of a [] = 0
cost_of a (x ∷ xs) = only (not (clause_true a x.literals)) x.weight + cost_of a xs

abbrev pub cost : Sheet → Truth → ℕ
cost S a = cost_of a S.wishes

-- Wish variable j is true exactly when the clause of literals of wish j is false; `v₀` is the first wish's variable.
abbrev pub wish_true : Truth → List Wish → ℕ → ℕ → Bool
wish_true a [] v₀ v = false
wish_true a (x ∷ xs) v₀ v = pick (eqb v v₀) (not (clause_true a x.literals)) (wish_true a xs (suc v₀) v)

abbrev pub true_inputs : Truth → Tree → ℕ
true_inputs t (input v) = only (t v) 1
true_inputs t (node l r) = true_inputs t l + true_inputs t r

-- Output k + 1 of a node is true exactly when more than k of the node's inputs are; `i` counts the tree's variables from 0.
abbrev pub output_true : Truth → Tree → ℕ → Bool
output_true t (input v) i = false
output_true t (node l r) i =
    pick (ltb i (inputs l + inputs r)) (ltb i (true_inputs t l + true_inputs t r))
    (pick (ltb (i - (inputs l + inputs r)) (variables l)) (output_true t l (i - (inputs l + inputs r)))
    (output_true t r (i - (inputs l + inputs r) - variables l)))

-- A truth with the variables of one more counter, whose inputs it knows.
abbrev pub with_counter : Truth → ℕ → Tree → ℕ → Bool
with_counter t start x v = pick (leb start v && ltb v (start + variables x)) (output_true t x (v - start)) (t v)

abbrev pub with_counters : ℕ → Truth → ℕ → List Counter → ℕ → Bool
with_counters stride t start [] v = t v
with_counters stride t start (x ∷ xs) v = with_counters stride (with_counter t start (tree_of x.inputs)) (start + stride) xs v

-- The truth of every variable.
abbrev pub truth : Sheet → Work → Truth → ℕ → Bool
truth S W a =
    with_counters S.width.stride (λ v. pick (ltb v first_wish) (a v) (wish_true a S.wishes first_wish v))
    first_counter W.counters

-- The sum of f over all numbers below n. It stays shut, for no sum over all variable numbers is ever computed.
unfoldable pub sum_below : ℕ → (ℕ → ℕ) → ℕ
sum_below zero f = 0
sum_below (suc n) f = sum_below n f + f n

-- The weight f on the variables below n that are true, each counted once.
abbrev pub weight_on : Truth → ℕ → (ℕ → ℕ) → ℕ
weight_on t n f = sum_below n (λ v. only (t v) (f v))

-- The summed weight of the wishes.
abbrev pub all_weights : List Wish → ℕ
all_weights [] = 0
all_weights (x ∷ xs) = x.weight + all_weights xs
