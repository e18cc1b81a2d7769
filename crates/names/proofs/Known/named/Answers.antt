-- `named` meets its contract: each range of numbers is of one kind of variable.
use Rattle.std.proofs.Common.{◌≡◌, ℕ, ℤ, sym, ◌∙◌, ap, arith, rules, w32, to_z, of_z}
use borrow.Author.Tests.{le-leb, lt-leb}
use Rattle.paper.specs.Clauses.{variable}
use Rattle.names.proofs.Names.{problem_name, wish_name, counter_name}
use Rattle.names.proofs.Known.named.Goals as goal

same_variable : (l : ℤ) {v : ℕ} → v ≡ variable (to_z w32 (of_z w32 l)) → to_z w32 (of_z w32 l) ≡ l → variable l ≡ v
same_variable l e same = sym (e ∙ ap variable same)

pub returns-else-variable-ge1 : goal.returns-else-variable-ge1
returns-else-variable-ge1 c s k w =
    let l = c.args.literal in
    let v = same_variable l c.variable_of-variable.ensures (search rules) in
    rw (problem_name s k.reached l (omega arith), v, lt-leb 1 c.variable_of-variable.result (omega arith))

pub returns-then-variable-ge1 : goal.returns-then-variable-ge1
returns-then-variable-ge1 c s k w =
    let l = c.args.literal in
    let v = same_variable l c.variable_of-variable.ensures (search rules) in
    rw (k.tally_is, problem_name s k.reached l (omega arith), v, le-leb 1 c.variable_of-variable.result (omega arith))

pub returns-then-variable-lt-FIRST_COUNTER : goal.returns-then-variable-lt-FIRST_COUNTER
returns-then-variable-lt-FIRST_COUNTER c s k w =
    let l = c.args.literal in
    let v = same_variable l c.variable_of-variable.ensures (search rules) in
    rw (k.tally_is, wish_name s k.reached l (omega arith) (omega arith), v)

pub returns : goal.returns
returns c s k w =
    let l = c.args.literal in
    let v = same_variable l c.variable_of-variable.ensures (search rules) in
    rw (counter_name s k.reached l (omega arith), v) (c.in_counter.ensures s k w)
