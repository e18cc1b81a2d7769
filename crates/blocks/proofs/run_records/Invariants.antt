-- Each turn answers one record, and what is left to answer comes to the same.
use Rattle.std.proofs.Common.{◌-◌}
use Rattle.rooms.specs.Lent.{rooms_in, values_in, SameRooms, KeptWork}
use Rattle.blocks.proofs.Blocks.{Going}
use Rattle.blocks.proofs.run_records.Given as goal

abbrev pub invariant-loop-answered : goal.invariant-loop-answered
invariant-loop-answered l =
    record {
      same : SameRooms l.fn.rooms l.rooms;
      kept : KeptWork l.fn.rooms l.rooms;
      going : Going l.fn.tally (rooms_in l.fn.rooms) (values_in l.fn.rooms) l.fn.place l.fn.most l.block l.fn.out (rooms_in l.rooms)
          (values_in l.rooms) l.out l.progress (l.most - l._answered);
    }
