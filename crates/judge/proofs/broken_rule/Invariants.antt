-- The rules passed are met.
use Rattle.std.proofs.Common.{ℕ, List}
use Rattle.paper.specs.Clauses.{Clause}
use Rattle.paper.specs.Truth.{arranged}
use Rattle.clauses.specs.Family.{Holds}
use Rattle.judge.proofs.Arrangements.{Met}
use Rattle.judge.proofs.broken_rule.Given as goal

abbrev pub invariant-loop-number : goal.invariant-loop-number
invariant-loop-number l =
    record {
      met :
          (size most : ℕ) (family : List Clause) → Holds size most l.rules.literals.now l.rules.ends.now l.count family
          → Met (arranged l.arrangement) family l.number;
    }
