-- The word that was found is read as a number.
use Rattle.std.proofs.Common.{sym, ◌∙◌}
use Rattle.headers.proofs.Numbers.{no_number, a_number}
use Rattle.headers.proofs.next_number.Goals as goal

pub returns-in_err-value : goal.returns-in_err-value
returns-in_err-value c =
    rw c.from_residual-in_err-value.ensures
    (no_number c.args.line.now c.args.at _ _ c.in_ok-found.ensures (sym c.in_err-value.was ∙ c.read_decimal.ensures))

pub returns : goal.returns
returns c = a_number c.args.line.now c.args.at _ _ c.in_ok-found.ensures _ (sym c.in_ok-value.was ∙ c.read_decimal.ensures)
