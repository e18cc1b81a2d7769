-- What a printing function answers, and what the lent buffer holds after it. Both records pin every byte of the buffer.
use Rattle.std.specs.Prelude.{◌≡◌, List, [], ◌∷◌, ◌++◌, ℕ, ◌+◌, ◌≤◌, ◌<◌, length}
use Rattle.std.proofs.lemmas.List.Edits.{sets}
use Rattle.paper.specs.Inputs.{decimal, line_text}
use Rattle.paper.specs.Runs.{Line}

-- No line is longer: 20 digits of a place of 64 bits, 10 of each of four numbers of 32 bits, and the byte that ends each of the five.
abbrev pub line_room : ℕ
line_room = 65

-- A number and the byte that ends it, of which a line has five.
unfoldable pub word : ℕ → ℕ → List ℕ
word n end = decimal n ++ end ∷ []

-- The text stands in the buffer from `at` to `end`, one byte after the other, and the others are as before.
pub record Written (buffer : List ℕ) (at : ℕ) (text : List ℕ) (end : ℕ) (buffer' : List ℕ) : Type 0 where
  pub bytes : buffer' ≡ sets buffer at text
  pub ends : end ≡ at + length text

-- A line is written where the longest would fit: a caller that leaves this room need not know how many digits the numbers have.
-- Else nothing is written.
pub record Printed (buffer : List ℕ) (at : ℕ) (line : Line) (end : ℕ) (buffer' : List ℕ) : Type 0 where
  pub fits : at + line_room ≤ length buffer → Written buffer at (line_text line) end buffer'
  pub refused : length buffer < at + line_room → (buffer' ≡ buffer) × (end ≡ at)
  pub short : end ≤ at + line_room
