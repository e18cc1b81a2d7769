-- The words of a text from a place on, and what the search for the next of them finds.
use Rattle.std.specs.Prelude.{◌≡◌, Bool, true, List, [], ◌∷◌, ℕ, zero, suc, ◌+◌, ◌-◌, ◌≤◌, ◌<◌, eqb, length, take, drop, get_or, Option, None, Some}
use Rattle.paper.specs.Clauses.{pick}
use Rattle.paper.specs.Texts.{Stand, first, behind, gap, word, Word, words}
use Rattle.words.specs.declared.Found.{Found}

-- A line starts at the text's start and behind an LF.
unfoldable pub starts_line : List ℕ → ℕ → Bool
starts_line text zero = true
starts_line text (suc at) = eqb (get_or text at 0) 10

-- Where the byte at a place stands, if no word goes over it.
unfoldable pub stand_at : List ℕ → ℕ → Stand
stand_at text at = pick (starts_line text at) first behind

-- The words of a text from a place on at which no word goes on.
unfoldable pub words_at : List ℕ → ℕ → List Word
words_at text at = words (stand_at text at) at (drop at text)

-- The first of the words from `at` on has the bytes from `start` to `end`, and behind it the others go on. It has a byte at least:
-- whoever goes on at `end` comes nearer to the text's end.
pub record Stands (text : List ℕ) (at start end : ℕ) : Type 0 where
  pub onward : at ≤ start
  pub long : start < end
  pub fits : end ≤ length text
  pub words : words_at text at ≡ record { at = start; bytes = take (end - start) (drop start text) } ∷ words_at text end

-- Where the blanks and comments from a place on end.
abbrev pub gap_end : List ℕ → ℕ → ℕ
gap_end text at = at + gap (stand_at text at) (drop at text)

-- A word starts where they end, and if that is at the text's end, there is none.
pub record NoWord (text : List ℕ) (at : ℕ) : Type 0 where
  pub over : length text ≤ gap_end text at
  pub none : words_at text at ≡ []

pub record NextWord (text : List ℕ) (at start end : ℕ) : Type 0 where
  pub starts : start ≡ gap_end text at
  pub ends : end ≡ start + length (word (drop start text))
  pub some : Stands text at start end

abbrev pub Next : List ℕ → ℕ → Option Found → Type 0
Next text at None = NoWord text at
Next text at (Some found) = NextWord text at found.start found.end
