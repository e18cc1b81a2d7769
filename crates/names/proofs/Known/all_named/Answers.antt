-- Each literal is decided by what `named` found of it.
use Rattle.std.proofs.Common.{◌≡◌, ◌∙◌, ap, arith, rules, pos, w32, to_z, of_z, slice_index_or}
use Rattle.paper.specs.Session.{named_literal}
use Rattle.names.proofs.Names.{turn, ended}
use Rattle.names.proofs.Known.all_named.Goals as goal

pub returns-then-not-named : goal.returns-then-not-named
returns-then-not-named c s k w =
    let l = slice_index_or c.args.clause.now c.loop-literal.literal-index (pos 0) in
    let z : to_z w32 (of_z w32 l) ≡ l = search rules in
    rw c.if-not-named.true at (turn (named_literal s.sheet s.work) c.args.clause.now c.loop-literal.literal-index (c.loop-literal.invariant.same s k w)
    (pos 0) _ c.loop-literal-test.true (c.named.ensures s k w ∙ ap (named_literal s.sheet s.work) z))

pub loop-literal-preserved : goal.loop-literal-preserved
loop-literal-preserved c =
    let l = slice_index_or c.args.clause.now c.loop-literal.literal-index (pos 0) in
    let z : to_z w32 (of_z w32 l) ≡ l = search rules in
    record {
      within = omega arith;
      same = λ s k w. rw c.if-not-named.false at (turn (named_literal s.sheet s.work) c.args.clause.now c.loop-literal.literal-index
          (c.loop-literal.invariant.same s k w) (pos 0) _ c.loop-literal-test.true
          (c.named.ensures s k w ∙ ap (named_literal s.sheet s.work) z));
    }

pub returns : goal.returns
returns c s k w = ended _ c.args.clause.now c.loop-literal.literal-index (c.loop-literal.invariant.same s k w) (omega arith)
