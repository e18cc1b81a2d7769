-- Each hint is decided by what `hint_named` found of it.
use Rattle.std.proofs.Common.{Bool, ℕ, ap, ◌∙◌, arith}
use Rattle.paper.specs.Session.{Session, hint_in, hint_named}
use Rattle.names.proofs.Names.{turn, ended}
use Rattle.names.proofs.Known.all_hints_named.Goals as goal

abbrev passes : Session → ℕ → Bool
passes s word = hint_named s.sheet s.work (hint_in word)

pub returns-then-not-hint_named : goal.returns-then-not-hint_named
returns-then-not-hint_named c s k =
    rw c.if-not-hint_named.true at (turn (passes s) c.args.hints.now c.loop-word.word-index (c.loop-word.invariant.same s k) 0 _ c.loop-word-test.true
    (c.hint_named.ensures s k ∙ ap (hint_named s.sheet s.work) c.from.ensures))

pub loop-word-preserved : goal.loop-word-preserved
loop-word-preserved c =
    record {
      within = omega arith;
      same = λ s k. rw c.if-not-hint_named.false at (turn (passes s) c.args.hints.now c.loop-word.word-index
          (c.loop-word.invariant.same s k) 0 _ c.loop-word-test.true (c.hint_named.ensures s k ∙ ap (hint_named s.sheet s.work) c.from.ensures));
    }

pub returns : goal.returns
returns c s k = ended (passes s) c.args.hints.now c.loop-word.word-index (c.loop-word.invariant.same s k) (omega arith)
