-- One record is answered, and its line stands behind the others.
use Rattle.std.proofs.Common.{◌≡◌, drop}
use Rattle.paper.specs.Records.{Record}
use Rattle.paper.specs.Inputs.{record_in}
use Rattle.blocks.proofs.Blocks.{carried_one}
use Rattle.blocks.proofs.answer_next.Goals as goal

pub returns-clause-ran : goal.returns-clause-ran
returns-clause-ran c =
    let p = c.args.progress in
    let one : Record = record { kind = c.kind_at-kind.result; payload = c.payload_at-payload.result.now } in
    let read : one ≡ record_in c.args.size (drop p.consumed c.args.block.now) =
    λ i. record { kind = c.kind_at-kind.ensures i; payload = c.payload_at-payload.ensures i } in
    let line = c.put_line-written.ensures.fits c.requires.written_in_bounds in
    carried_one c.args.block.now p.consumed c.args.size c.requires.block_value one read p.place p.written c.args.out.now
    _ _ _ _ c.answer-answer.ensures.answered c.from-numbers.ensures line
