-- The records first, then the end if it is here.
use Rattle.std.proofs.Common.{ℕ, ap, arith}
use Rattle.paper.specs.Inputs.{records_in}
use Rattle.blocks.proofs.Blocks.{carried_same, block_on, block_stops}
use Rattle.blocks.proofs.run_block.Goals as goal

pub returns-then-not-stops-clause-ran : goal.returns-then-not-stops-clause-ran
returns-then-not-stops-clause-ran c =
    let asked = ap (λ (m : ℕ). records_in m c.args.block.now) c.most_records.ensures in
    λ s k.
    let ran = carried_same asked c.run_records-done.ensures.ran s k in
    let done = block_on c.args.last c.args.place s c.args.block.now _ _ _ _ ran.0 (cc) in
    (done.0, done.1, ran.1)

pub returns-clause-ran : goal.returns-clause-ran
returns-clause-ran c =
    let asked = ap (λ (m : ℕ). records_in m c.args.block.now) c.most_records.ensures in
    λ s k.
    let ran = carried_same asked c.run_records-done.ensures.ran s k in
    let ends = rw (c.from-none.ensures, c.from.ensures) at (c.put_line-written.ensures.fits (omega arith)) in
    let done =
    block_stops c.args.last c.args.place s c.args.block.now _ _ _ _ ran.0 (cc) _ _ ends in
    (done.0, done.1, ran.1)
