-- The literal that is not told to be false, with what is still to be read, is the whole.
use Rattle.std.proofs.Common.{◌≡◌, drop}
use Rattle.values.specs.Lent.{bytes_in}
use Rattle.readings.specs.Readings.{read_in, both}
use Rattle.readings.proofs.Readings.{one_or_none}
use Rattle.readings.proofs.read.Given as goal

abbrev pub invariant-loop-literal : goal.invariant-loop-literal
invariant-loop-literal l =
    both (read_in (bytes_in l.values) (one_or_none l.other)) (read_in (bytes_in l.values) (drop l.literal-index l.part))
    ≡ read_in (bytes_in l.values) l.part
