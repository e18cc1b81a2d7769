-- `read_stored` meets its contract.
use Rattle.std.proofs.Common.{arith}
use Rattle.hints.proofs.Hints.{forces_open}
use Rattle.hints.proofs.read_stored.Goals as goal

pub returns-clause-forces : goal.returns-clause-forces
returns-clause-forces c = grind (arith, forces_open)
