-- What is still to be read is fresh exactly where the clause is, and unmarking gives the room back.
use Rattle.std.proofs.Common.{◌≡◌, ◌≤◌, length, drop}
use Rattle.values.specs.Lent.{bytes, SameValues}
use Rattle.marks.specs.Marks.{fresh, unmarked}
use Rattle.marks.proofs.mark.Given as goal

abbrev pub invariant-loop-count : goal.invariant-loop-count
invariant-loop-count l =
    record {
      within : l.count ≤ length l.clause;
      same : SameValues l.fn.values l.values;
      undone : unmarked (bytes l.values) l.clause l.count ≡ bytes l.fn.values;
      left : fresh (bytes l.values) (drop l.count l.clause) ≡ fresh (bytes l.fn.values) l.clause;
    }
