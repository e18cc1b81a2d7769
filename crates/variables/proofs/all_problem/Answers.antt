-- The library's test of all literals is the paper's.
use Rattle.std.proofs.Common.{◌∙◌, rules, tests}
use Rattle.std.proofs.lemmas.Iterator.{YieldsList-from_slice}
use Rattle.std.proofs.lemmas.Iterator.Search.{all_from_yields_List}
use Rattle.paper.specs.Session.{problem_literal}
use Rattle.variables.proofs.Every.{every_all}
use Rattle.variables.proofs.all_problem.Goals as goal

pub returns : goal.returns
returns c =
    all_from_yields_List (problem_literal c.args.variables) _ _ _ c.all.ensures.ran (YieldsList-from_slice c.args.clause.now cc) (λ x b q k. search (rules, tests))
    ∙ every_all (problem_literal c.args.variables) c.args.clause.now
