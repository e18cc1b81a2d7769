-- What is still to be read decides as the whole word does.
use Rattle.numerals.proofs.Digits.{Read}
use Rattle.numerals.proofs.read_decimal.Given as goal

abbrev pub invariant-loop-byte : goal.invariant-loop-byte
invariant-loop-byte l = Read l.word l.most l.value l.byte-index
