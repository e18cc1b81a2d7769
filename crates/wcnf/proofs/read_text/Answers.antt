-- Zeros stand behind the records.
use Rattle.std.proofs.Common.{arith, ◌∙◌}
use Rattle.wcnf.proofs.Whole.{sound_room}
use Rattle.wcnf.proofs.read_text.Goals as goal

pub returns-else-out-written-clause-room : goal.returns-else-out-written-clause-room
returns-else-out-written-clause-room c =
    let C = c.in-Ok.ensures in
    c.zero_from.ensures ∙ sound_room c.args.text.now c.args.out.now _ _ C.read (omega (arith, C.size, c.if-out-written.false))
