-- What is assumed so far, with the literals that are left, is the whole.
use Rattle.std.proofs.Common.{◌≡◌, ◌≤◌, length, drop}
use Rattle.values.specs.Lent.{bytes, SameValues}
use Rattle.marks.specs.Marks.{unmarked}
use Rattle.derive.specs.Derivations.{assumed_in}
use Rattle.derive.proofs.assume.Given as goal

abbrev pub invariant-loop-literal : goal.invariant-loop-literal
invariant-loop-literal l =
    record {
      fewer : l.count ≤ l.literal-index;
      values_same : SameValues l.initial.values l.values;
      trail_kept : length l.trail ≡ length l.initial.trail;
      undone : unmarked (bytes l.values) l.trail l.count ≡ bytes l.initial.values;
      same : assumed_in (bytes l.values) (drop l.literal-index l.clause) ≡ assumed_in (bytes l.initial.values) l.clause;
    }
