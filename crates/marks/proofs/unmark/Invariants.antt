-- What is left to take away gives the same room.
use Rattle.std.proofs.Common.{◌≡◌, length}
use Rattle.values.specs.Lent.{bytes, SameValues}
use Rattle.marks.specs.Marks.{unmarked}
use Rattle.marks.proofs.unmark.Given as goal

abbrev pub invariant-loop-literal : goal.invariant-loop-literal
invariant-loop-literal l =
    record {
      same : SameValues l.fn.values l.values;
      left : unmarked (bytes l.values) l.literal-iterator.iter.rest.now (length l.literal-iterator.iter.rest.now)
          ≡ unmarked (bytes l.fn.values) l.clause (length l.clause);
    }
