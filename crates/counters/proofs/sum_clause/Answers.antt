-- `counters::sum_clause` meets its contract.
use Rattle.std.proofs.Common.{◌≡◌, ◌+◌, refl, rules, arith, w32, to_z, pos}
use Rattle.counters.proofs.Holding.{previous_is}
use Rattle.counters.proofs.sum_clause.Goals as goal

pub returns : goal.returns
returns c =
    let sum : to_z w32 (c.args.own + c.saturating_sub.result) ≡ pos (c.args.own + c.saturating_sub.result) = search rules in
    c.unless_output-2.ensures.holds _
    (c.unless_output.ensures.holds _
    (rw (sum, c.saturating_sub.ensures, previous_is)
    (record { few = omega arith; whole = refl; padded = refl })))
