-- Each way out is one law of Wishes.
use Rattle.std.proofs.Common.{arith, rules, ◌≡◌, get_or}
use Rattle.weigh.proofs.Wishes.{counted, kept, breaks}
use Rattle.weigh.proofs.weigh_wish.Goals as goal

pub returns-then-clause_holds : goal.returns-then-clause_holds
returns-then-clause_holds c = (
  omega arith,
  λ s t f size W h M. kept W c.args.number h _ (c.clause.ensures _ _ _ (counted W)) _ c.clause_holds.ensures M c.if-clause_holds.true,
)

pub returns : goal.returns
returns c =
    let weight : c.from.result ≡ get_or c.args.left.now c.args.number 0 = search rules in (
      omega arith,
      λ s t f size W h M.
          breaks W c.args.number h _ (c.clause.ensures _ _ _ (counted W)) _ c.clause_holds.ensures M c.if-clause_holds.false _ c.store.ensures _
          weight,
    )
