-- No byte adds more than one to the line or to the column.
use Rattle.std.proofs.Common.{◌+◌, ◌≤◌}
use Rattle.wcnf2rec.proofs.spot_of.Given as goal

abbrev pub invariant-loop-byte : goal.invariant-loop-byte
invariant-loop-byte l = record { line : l.line ≤ l.byte-index + 1; column : l.column ≤ l.byte-index + 1 }
