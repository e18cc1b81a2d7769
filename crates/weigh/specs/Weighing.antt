-- The remaining weight on the variables that are true, summed by place: first the wishes', then each counter's root outputs.
use Rattle.std.specs.Prelude.{List, ℕ, zero, suc, ◌+◌, length, get_or}
use Rattle.paper.specs.Sizes.{wish_variable, counter_start}
use Rattle.paper.specs.declared.Width.{Width}
use Rattle.paper.specs.Clauses.{Truth, only}
use Rattle.paper.specs.Session.{Counter, no_counter}

-- The first `count` wish variables.
unfoldable pub wish_sum : Truth → (ℕ → ℕ) → ℕ → ℕ
wish_sum t f zero = 0
wish_sum t f (suc j) = wish_sum t f j + only (t (wish_variable j)) (f (wish_variable j))

-- The first `count` outputs of a root whose variables begin at `start`.
unfoldable pub output_sum : Truth → (ℕ → ℕ) → ℕ → ℕ → ℕ
output_sum t f start zero = 0
output_sum t f start (suc i) = output_sum t f start i + only (t (start + i)) (f (start + i))

-- The root outputs of the first `count` counters.
unfoldable pub counter_sum : Width → List Counter → Truth → (ℕ → ℕ) → ℕ → ℕ
counter_sum u xs t f zero = 0
counter_sum u xs t f (suc c) =
    counter_sum u xs t f c + output_sum t f (counter_start u c) (length (get_or xs c no_counter).inputs)
