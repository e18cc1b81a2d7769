-- A turn of a run: the records that it answers, and the session that it goes on from.
use Rattle.std.specs.Prelude.{List, ℕ, drop}
use Rattle.paper.specs.declared.Tally.{Tally}
use Rattle.paper.specs.Session.{Session}
use Rattle.paper.specs.Records.{Record}
use Rattle.paper.specs.Inputs.{bytes_of}
use Rattle.rooms.specs.Held.{Rooms}
use Rattle.rooms.specs.Kept.{Kept}
use Rattle.blocks.specs.Blocks.{taken_from}
use Rattle.turns.specs.Turns.{waiting}
use Rattle.turns.specs.declared.State.{State}

-- The records that a turn answers: those that stand whole in the bytes that none has taken yet.
abbrev pub taken : State → List ℕ → List Record
taken state input = taken_from state.place (waiting state input)

-- The bytes that these leave for the next turn.
abbrev pub unanswered : State → List ℕ → List ℕ
unanswered state input = drop (bytes_of (taken state input)) (waiting state input)

-- Some session is kept: what a turn needs, and what it leaves.
pub record Standing (t : Tally) (rooms : Rooms) (values : List ℕ) : Type 0 where
  pub session : Session
  pub kept : Kept t rooms values session
