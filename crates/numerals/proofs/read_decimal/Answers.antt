-- A value that is too large already stays so: it only grows.
use Rattle.std.proofs.Common.{arith}
use Rattle.numerals.proofs.Digits.{too_large}
use Rattle.numerals.proofs.read_decimal.Goals as goal

pub returns-then-from-value : goal.returns-then-from-value
returns-then-from-value c =
    let large = c.if-from-value.true in
    too_large _ _ _ _ c.loop-byte.invariant c.loop-byte-test.true (omega (arith, large, c.from.ensures, c.from-in-loop-byte.ensures))
