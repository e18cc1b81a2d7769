-- `counters::unless_output` meets its contract.
use Rattle.std.proofs.Common.{◌≡◌, rules, pos, w32, to_z, of_z, slice_index_or}
use Rattle.counters.proofs.Holding.{in_front_lem, unless_some}
use Rattle.counters.proofs.unless_output.Goals as goal

pub returns-clause-holds : goal.returns-clause-holds
returns-clause-holds c clause h =
    let rest = c.args.rest in
    let negated = c.negative_literal-negated.result in
    let first : to_z w32 (of_z w32 negated) ≡ negated = search rules in
    let second : to_z w32 (of_z w32 (slice_index_or rest.literals 0 (pos 0))) ≡ slice_index_or rest.literals 0 (pos 0) = search rules in
    let third : to_z w32 (of_z w32 (slice_index_or rest.literals 1 (pos 0))) ≡ slice_index_or rest.literals 1 (pos 0) = search rules in
    rw (first, second, third, unless_some _ _ clause c.if-count-eq0.false, c.negative_literal-negated.ensures)
    (in_front_lem _ rest clause c.requires.1 h)
