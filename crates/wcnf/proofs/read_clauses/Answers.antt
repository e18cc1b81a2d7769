-- Behind the opening the clauses come one after the other: each is taken, or the whole text is at fault.
use Rattle.std.proofs.Common.{arith, rules, ◌∙◌}
use Rattle.paper.specs.Texts.{open_record}
use Rattle.wcnf.proofs.Clauses.{opened, more, broken, all_there, wrong_count}
use Rattle.wcnf.proofs.Laws.{came_fault}
use Rattle.wcnf.proofs.read_clauses.Goals as goal

pub returns-in_err-step : goal.returns-in_err-step
returns-in_err-step c =
    let S = c.loop-found.invariant.so_far c.args.out.now
    (opened c.args.out.now (open_record c.args.header.variables) _ _ c.put_open-written.ensures) in
    let E = c.in_err-step.ensures.one_clause in
    came_fault _ c.from_residual.ensures.1 (E.size ∙ S.stand.same_length)
    (broken S c.in-Some.found.start c.in-Some.found.end _ _ c.in-Some.ensures.some.words (E.read S.done))

pub loop-found-preserved : goal.loop-found-preserved
loop-found-preserved c =
    let W = c.in-Some.ensures.some in
    let i = c.loop-found.invariant in
    let E = c.in_ok-step.ensures in
    let T = E.one_clause.read in
    record {
      kept = search (rules, E.kept, i.kept);
      within = omega (arith, W.onward, W.long, T.onward, i.within);
      so_far = λ room P. more (i.so_far room P) _ _ _ _ W.words T;
    }

pub returns-then-header-clauses : goal.returns-then-header-clauses
returns-then-header-clauses c =
    let S = c.loop-found.invariant.so_far c.args.out.now
    (opened c.args.out.now (open_record c.args.header.variables) _ _ c.put_open-written.ensures) in
    record { size = S.stand.same_length; read = wrong_count S c.in_default.ensures.none c.if-header-clauses.true }

pub returns : goal.returns
returns c =
    let S = c.loop-found.invariant.so_far c.args.out.now
    (opened c.args.out.now (open_record c.args.header.variables) _ _ c.put_open-written.ensures) in
    record { size = S.stand.same_length; read = all_there S c.in_default.ensures.none c.if-header-clauses.false }
