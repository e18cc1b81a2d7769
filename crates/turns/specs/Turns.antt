-- Where a run over standard input stands between two turns.
use Rattle.std.specs.Prelude.{◌≡◌, Bool, true, false, not, ◌&&◌, ◌||◌, List, ℕ, ◌+◌, ◌-◌, ◌≤◌, ltb, eqb, length, take}
use Rattle.paper.specs.Clauses.{pick}
use Rattle.paper.specs.Session.{fresh as freshSession, tally_of}
use Rattle.slices.specs.Slices.{part_of}
use Rattle.blocks.specs.declared.Progress.{Progress}
use Rattle.turns.specs.declared.State.{State}

abbrev pub fresh : ℕ → State
fresh limit =
    record {
      tally = tally_of freshSession;
      place = 1;
      start = 0;
      end = 0;
      unread = limit;
      last = false;
      written = true;
      over = false;
    }

-- The bytes that no record has taken yet.
abbrev pub waiting : State → List ℕ → List ℕ
waiting state input = part_of input state.start state.end

-- They are a part of the buffer.
pub record Within (state : State) (size : ℕ) : Type 0 where
  pub up : state.start ≤ state.end
  pub fits : state.end ≤ size

-- Some bytes begin with others.
abbrev pub Begins : List ℕ → List ℕ → Type 0
Begins bytes first = take (length first) bytes ≡ first

-- The place behind so many bytes of a block, or its end where it has fewer.
abbrev pub ahead : ℕ → ℕ → ℕ → ℕ
ahead start consumed end = pick (ltb end start) end (pick (ltb (end - start) consumed) end (start + consumed))

-- A run ends with 10, where a line was not written, and behind the last block, which has no record whole.
abbrev pub ends : Bool → Bool → Bool → ℕ → Bool
ends stopped written last consumed = stopped || (not written || (last && eqb consumed 0))

-- Where a block leads to.
abbrev pub onward : State → Progress → Bool → State
onward state done written =
    record {
      tally = done.tally;
      place = done.place;
      start = ahead state.start done.consumed state.end;
      end = state.end;
      unread = state.unread;
      last = state.last;
      written = written;
      over = ends done.stopped written state.last done.consumed;
    }

-- What a read changes, and what not.
pub record Refilled (state r : State) : Type 0 where
  pub tally : r.tally ≡ state.tally
  pub place : r.place ≡ state.place
  pub start : r.start ≡ 0
  pub less : r.unread ≤ state.unread
  pub last : r.last ≡ eqb (state.unread - r.unread) 0
  pub written : r.written ≡ state.written
  pub over : r.over ≡ state.over
