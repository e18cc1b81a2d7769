-- One turn pastes one literal more.
use Rattle.std.proofs.Common.{arith, rules}
use lib.IntN.{pos}
use Rattle.clauses.proofs.Lists.{paste_more}
use Rattle.clauses.proofs.copy_in.Goals as goal

pub loop-place-preserved : goal.loop-place-preserved
loop-place-preserved c =
    record {
      pasted =
          paste_more c.args.literals.now c.args.start c.args.clause.now c.loop-place.place (pos 0) (omega arith) (omega arith)
          c.loop-place.invariant.pasted (search rules);
    }
