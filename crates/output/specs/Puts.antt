-- What putting bytes into a room answers and leaves, and the two forms of a clause's record.
use Rattle.std.specs.Prelude.{◌≡◌, List, ◌++◌, ℕ, suc, ◌+◌, ◌≤◌, ◌<◌, length}
use Rattle.paper.specs.Clauses.{Clause}
use Rattle.paper.specs.Records.{Record}
use Rattle.paper.specs.Texts.{bytes_for, literal_bytes}
use Rattle.lines.specs.Lines.{Written}

-- The bytes stand in the room from `at` on where there is place for all of them; else the room is as before, and the end is past it.
pub record Put (room : List ℕ) (at : ℕ) (bytes : List ℕ) (end : ℕ) (room' : List ℕ) : Type 0 where
  pub fits : at + length bytes ≤ length room → Written room at bytes end room'
  pub past : length room < at + length bytes → (room' ≡ room) × (end ≡ suc (length room))

-- Bytes put one after the other from the front on: they stand there where there is place for all of them, else the end is past
-- the room.
pub record Puts (room bytes : List ℕ) (end : ℕ) (room' : List ℕ) : Type 0 where
  pub same_length : length room' ≡ length room
  pub fits : length bytes ≤ length room → Written room 0 bytes end room'
  pub past : length room < length bytes → end ≡ suc (length room)

abbrev pub rule_record : Clause → Record
rule_record c = record { kind = 2; payload = literal_bytes c }

abbrev pub wish_record : ℕ → Clause → Record
wish_record weight c = record { kind = 3; payload = bytes_for 4 weight ++ literal_bytes c }
