-- What is left to answer is nothing, or a record and the rest.
use Rattle.std.proofs.Common.{◌≡◌, ◌-◌, ◌∙◌, sym, drop, arith, rules}
use Rattle.blocks.proofs.Blocks.{none_whole, none_asked, going_on, going_ends}
use Rattle.blocks.proofs.run_records.Goals as goal

pub returns-in_default-clause-ran : goal.returns-in_default-clause-ran
returns-in_default-clause-ran c =
    let o = c.loop-answered in
    going_ends o.invariant.going
    (none_whole (drop o.progress.consumed c.args.block.now) _ c.front.ensures c.in_default.not-Whole _)

pub loop-answered-preserved : goal.loop-answered-preserved
loop-answered-preserved c =
    let o = c.loop-answered in
    let whole = sym c.front.ensures ∙ c.in-Whole.is in
    let some : c.args.most - o._answered ≡ 0 → ⊥ = λ e. omega (arith, e, c.loop-answered-test.true) in
    record {
      same = search rules;
      kept = search rules;
      going = going_on o.invariant.going _ _ _ whole some (omega arith) c.answer_next-progress.ensures.moved c.answer_next-progress.ensures.ran;
    }

pub returns-clause-ran : goal.returns-clause-ran
returns-clause-ran c =
    let o = c.loop-answered in
    going_ends o.invariant.going
    (none_asked (drop o.progress.consumed c.args.block.now) _ (omega (arith, c.loop-answered-test.false)))
