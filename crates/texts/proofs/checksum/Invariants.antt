-- Both sums stay below the modulus.
use Rattle.std.proofs.Common.{◌<◌}
use Rattle.texts.proofs.checksum.Given as goal

abbrev pub invariant-loop-byte : goal.invariant-loop-byte
invariant-loop-byte l = record { sum : l.sum < 65521; sums : l.sums < 65521 }
