-- What was read and what may still be read are as many bytes as the limit, the rooms are lent by the same references, and a session is
-- kept from turn to turn.
use Rattle.std.proofs.Common.{◌≡◌, ℕ, List, ◌+◌, length}
use Rattle.std.specs.Io.KnownBytes.{Consumes}
use Rattle.rooms.specs.Lent.{rooms_in, values_in, SameRooms}
use Rattle.turns.specs.Turns.{Within}
use Rattle.stream.specs.Taken.{Standing}
use Rattle.stream.proofs.run.Given as goal

abbrev pub invariant-loop-turn : goal.invariant-loop-turn
invariant-loop-turn g l =
    record {
      came : (read : List ℕ)
          × Consumes (g.R.Read.remaining l.initial.source) (g.R.Read.remaining l.source) read
          × (length read + l.state.unread ≡ l.limit);
      within : Within l.state (length l.input);
      same : SameRooms l.initial.lent l.lent;
      standing : Standing l.state.tally (rooms_in l.lent) (values_in l.lent);
    }
