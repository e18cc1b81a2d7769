-- `counters::first_output` meets its contract.
use Rattle.std.proofs.Common.{◌≡◌, ap, ◌∙◌, arith, rules, pos, w32, to_z, of_z, slice_index_or}
use Rattle.paper.specs.Clauses.{variable}
use Rattle.counters.proofs.Halves.{first_single, first_many}
use Rattle.counters.proofs.first_output.Goals as goal

pub returns-in-len1-clause-value : goal.returns-in-len1-clause-value
returns-in-len1-clause-value c =
    let xs = c.args.inputs.now in
    let input = slice_index_or xs 0 (pos 0) in
    let same : to_z w32 (of_z w32 input) ≡ input = search rules in
    c.variable_of.ensures ∙ ap variable same ∙ first_single xs c.args.start (omega arith)

pub returns-in_default-2-clause-value : goal.returns-in_default-2-clause-value
returns-in_default-2-clause-value c = first_many c.args.inputs.now (omega arith) c.args.start
