-- `size_of` meets its contract: where the end lies before the start, the difference is 0 as well.
use Rattle.std.proofs.Common.{arith}
use Rattle.clauses.proofs.Family.{size_is}
use Rattle.clauses.proofs.size_of.Goals as goal

pub returns : goal.returns
returns c = λ size most count literals family H.
    omega (arith, size_is H c.args.number _ _ c.start_of-start.ensures.0 c.start_of-end.ensures.0)
