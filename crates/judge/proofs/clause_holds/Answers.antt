-- The library's test of any literal is the clause's truth.
use Rattle.std.proofs.Common.{◌∙◌, rules, tests}
use Rattle.std.proofs.lemmas.Iterator.{YieldsList-from_slice}
use Rattle.std.proofs.lemmas.Iterator.Search.{any_from_yields_List}
use Rattle.paper.specs.Clauses.{literal_true}
use Rattle.paper.specs.Truth.{arranged}
use Rattle.judge.proofs.Arrangements.{any_true}
use Rattle.judge.proofs.clause_holds.Goals as goal

pub returns : goal.returns
returns c =
    let t = arranged c.args.arrangement.now in
    any_from_yields_List (literal_true t) _ _ _ c.any.ensures.ran (YieldsList-from_slice c.args.clause.now cc) (λ x b q k. search (rules, tests))
    ∙ any_true t c.args.clause.now
