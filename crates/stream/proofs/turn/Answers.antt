-- What the block leads to; a read moves neither the place nor the session, and puts what it brings behind what was left.
use Rattle.std.proofs.Common.{ℕ, List, [], ◌++◌, ◌∙◌, ap, arith}
use Rattle.std.proofs.KnownBytes.{Consumes-nil}
use Rattle.turns.specs.declared.State.{State}
use Rattle.stream.proofs.Turned.{turned, left_waiting, left_begins, left_alone}
use Rattle.stream.proofs.turn.Goals as goal

pub returns-then-next-clause-waits : goal.returns-then-next-clause-waits
returns-then-next-clause-waits g c =
    let ran = c.run_block-done.ensures.ran c.requires.standing.session c.requires.standing.kept in
    left_begins c.args.state c.args.input.now _ c.part-block.ensures _ _ ran.0 c.requires.within _ _ c.after-next.ensures

pub returns-then-next-clause-came : goal.returns-then-next-clause-came
returns-then-next-clause-came g c =
    let ran = c.run_block-done.ensures.ran c.requires.standing.session c.requires.standing.kept in
    let alone = left_alone c.args.state c.args.input.now _ c.part-block.ensures _ _ ran.0 c.requires.within _ _ c.after-next.ensures in
    ([], Consumes-nil _, omega (arith, alone.0), alone.1)

pub returns-clause-turned : goal.returns-clause-turned
returns-clause-turned g c = λ s k.
    let ran = c.run_block-done.ensures.ran s k in
    let next = c.after-next.ensures in
    let filled = c.refill.ensures.stands in
    turned c.args.state c.args.input.now _ c.part-block.ensures s _ ran.0 ran.2 _ _
    (filled.tally ∙ ap (λ (x : State). x.tally) next) (filled.place ∙ ap (λ (x : State). x.place) next)

pub returns-clause-came : goal.returns-clause-came
returns-clause-came g c =
    let ran = c.run_block-done.ensures.ran c.requires.standing.session c.requires.standing.kept in
    let next = c.after-next.ensures in
    let left = left_waiting c.args.state c.args.input.now _ c.part-block.ensures _ _ ran.0 c.requires.within _ _ next in
    let came = c.refill.ensures.came left.0 in (
      came.0,
      came.1,
      came.2 ∙ ap (λ (x : State). x.unread) next,
      came.3 ∙ ap (λ (bytes : List ℕ). bytes ++ came.0) left.1,
    )
