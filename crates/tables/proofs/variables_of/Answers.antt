-- `tables::variables_of` meets its contract: the whole table is computed once.
use Rattle.std.proofs.Common.{refl}
use Rattle.paper.specs.Counters.{variables_of}
use Rattle.tables.specs.Tables.{table_of}
use Rattle.tables.proofs.variables_of.Goals as goal

pub returns : goal.returns
unfolding table_of
returns c = c.entry_of.ensures variables_of refl
