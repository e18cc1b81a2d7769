-- What is known with what is still to be read is the whole.
use Rattle.std.proofs.Common.{◌≡◌, drop}
use Rattle.values.specs.Lent.{bytes_in}
use Rattle.readings.specs.Readings.{read_in, both}
use Rattle.readings.proofs.read_on.Given as goal

abbrev pub invariant-loop-literal : goal.invariant-loop-literal
invariant-loop-literal l =
    both l.known (read_in (bytes_in l.values) (drop l.literal-index l.part)) ≡ both l.fn.reading (read_in (bytes_in l.values) l.part)
