-- A run over a block of an input: the records that the block has whole, no more of them than one call takes, and where the run
-- ends with 10, that line.
use Rattle.std.specs.Prelude.{◌≡◌, Bool, false, List, [], ◌∷◌, ◌++◌, ℕ, ◌+◌, ◌-◌, ◌≤◌, min, length, drop}
use Rattle.paper.specs.Clauses.{pick}
use Rattle.paper.specs.declared.Tally.{Tally}
use Rattle.paper.specs.Session.{Session, tally_of}
use Rattle.paper.specs.Runs.{Line}
use Rattle.paper.specs.Records.{Record}
use Rattle.paper.specs.Inputs.{records_in, bytes_of, record_lines, after, end_line, text}
use Rattle.lines.specs.Lines.{line_room, Written}
use Rattle.rooms.specs.Held.{Rooms}
use Rattle.rooms.specs.Kept.{Kept}
use Rattle.frames.specs.Frames.{stops}
use Rattle.blocks.specs.declared.Progress.{Progress}

-- ── Records one after the other ──

-- Where a run stands after some records, with their lines behind what the buffer had. It goes from a place, a byte of the block and
-- a byte of the buffer on.
pub record Ran (s : Session) (place at filled : ℕ) (out : List ℕ) (rs : List Record) (r : Progress) (out' : List ℕ) : Type 0 where
  pub counts : r.tally ≡ tally_of (after s rs)
  pub reads : r.consumed ≡ at + bytes_of rs
  pub stands : r.place ≡ place + length rs
  pub goes_on : r.stopped ≡ false
  pub lines : Written out filled (text (record_lines place s rs)) r.written out'

-- Whatever session a caller keeps, the records lead on from it, and what is kept then is the session after them.
abbrev pub CarriedOn : Tally → Rooms → List ℕ → ℕ → ℕ → ℕ → List ℕ → List Record → Progress → List ℕ → Rooms → List ℕ → Type 0
CarriedOn t rooms values place at filled out rs r out' rooms' values' =
    (s : Session) → Kept t rooms values s → Ran s place at filled out rs r out' × Kept r.tally rooms' values' (after s rs)

-- Where one record of this size leads a run, and that the buffer is as long as it was.
pub record Moved (p r : Progress) (n buffer buffer' : ℕ) : Type 0 where
  pub reads : r.consumed ≡ p.consumed + 4 + n
  pub stands : r.place ≡ p.place + 1
  pub short : r.written ≤ p.written + line_room
  pub goes_on : r.stopped ≡ false
  pub same : buffer' ≡ buffer

-- ── A block ──

-- So many that their lines and one more fit the buffer, and that the place stays a number of 64 bits.
abbrev pub most_records : ℕ → ℕ
most_records place = min 251 (18446744073709551615 - place)

abbrev pub taken_from : ℕ → List ℕ → List Record
taken_from place block = records_in (most_records place) block

abbrev pub left_in : List ℕ → List Record → List ℕ
left_in block rs = drop (bytes_of rs) block

-- The lines of some records, and the last line where the run ends behind them.
abbrev pub lines_in : Bool → ℕ → Session → List ℕ → List Record → List Line
lines_in last place s block rs =
    record_lines place s rs ++ pick (stops last (left_in block rs)) (end_line (place + length rs) ∷ []) []

abbrev pub progress_of : Bool → ℕ → Session → List ℕ → List Record → Progress
progress_of last place s block rs =
    record {
      tally = tally_of (after s rs);
      consumed = bytes_of rs;
      place = place + length rs;
      written = length (text (lines_in last place s block rs));
      stopped = stops last (left_in block rs);
    }
