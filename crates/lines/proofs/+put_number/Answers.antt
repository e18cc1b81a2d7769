-- A number has one digit, or those of a tenth of it and then its last one.
use Rattle.std.proofs.Common.{length, ap, arith}
use Rattle.lines.proofs.Lines.{decimal_one, decimal_more, decimal-length, written_byte, written-append}
use Rattle.lines.proofs.+put_number.Goals as goal

pub bounds-out-at : goal.bounds-out-at
bounds-out-at t c = omega (arith, ap length (decimal_one c.args.number c.if-number-lt10.true))

pub returns-then-number-lt10 : goal.returns-then-number-lt10
returns-then-number-lt10 t c = rw (decimal_one c.args.number c.if-number-lt10.true) (written_byte _ _ _)

pub put_number-last-requires : goal.put_number-last-requires
put_number-last-requires t c = (omega arith, omega (arith, decimal-length c.args.number c.if-number-lt10.false))

pub bounds-out-last : goal.bounds-out-last
bounds-out-last t c = omega (arith, decimal-length c.args.number c.if-number-lt10.false)

pub overflow_add-result-2 : goal.overflow_add-result-2
overflow_add-result-2 t c = omega (arith, decimal-length c.args.number c.if-number-lt10.false)

pub returns : goal.returns
returns t c =
    rw (decimal_more c.args.number c.if-number-lt10.false) (written-append c.put_number-last.ensures (written_byte _ _ _))
