-- What is read is the count at the place, and 0 past the table's end.
use Rattle.std.proofs.Common.{◌≡◌, ◌∙◌, arith, get_or}
use Rattle.std.proofs.lemmas.Grind.{common_steps}
use Rattle.std.proofs.lemmas.Option.{gets}
use Rattle.tables.proofs.Entries.{table_entry}
use Rattle.tables.proofs.entry_of.Goals as goal

pub returns : goal.returns
returns c count e =
    let read : c.from.result ≡ get_or c.args.table.now c.args.inputs 0 = grind (arith, common_steps, gets) in
    (λ h. read ∙ rw e (table_entry count c.args.inputs h), λ h. grind (arith, common_steps, gets))
