-- Each turn reads on where the one before stopped.
use Rattle.std.proofs.Common.{◌++◌, [], arith, ap, length-append, refl, sym, subst, rules}
use Rattle.std.proofs.KnownBytes.{Consumes-nil, Consumes-trans}
use Rattle.paper.specs.Session.{fresh}
use Rattle.rooms.proofs.Kept.{fresh_kept}
use Rattle.turns.specs.Turns.{Within}
use Rattle.turns.specs.declared.State.{State}
use Rattle.stream.proofs.run.Goals as goal

-- A fresh run stands at a fresh session.
pub loop-turn-init : goal.loop-turn-init
loop-turn-init g c =
    let told = c.fresh-state.ensures in
    record {
      came = ([], Consumes-nil _, omega (arith, ap (λ (x : State). x.unread) told));
      within = subst (λ (x : State). Within x _) (sym told) (record { up = omega arith; fits = omega arith });
      same = search rules;
      standing = record { session = fresh; kept = fresh_kept _ _ (ap (λ (x : State). x.tally) told) refl };
    }

pub loop-turn-preserved : goal.loop-turn-preserved
loop-turn-preserved g c =
    let before = c.loop-turn.invariant in
    let turn = c.turn-state.ensures in
    let turned = turn.turned before.standing.session before.standing.kept in
    record {
      came = (
        before.came.0 ++ turn.came.0,
        Consumes-trans _ _ _ _ _ before.came.1 turn.came.1,
        rw length-append (omega (arith, before.came.2, turn.came.2)),
      );
      within = turn.waits.0;
      same = search rules;
      standing = record { session = _; kept = turned.1 };
    }
