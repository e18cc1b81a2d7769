-- The literals of a clause in a text, from behind its weight on, and what reading them answers and leaves.
use Rattle.std.specs.Prelude.{◌≡◌, not, List, [], ◌∷◌, ◌++◌, ℕ, ◌+◌, ◌≤◌, ◌<◌, eqb, ℤ, length, Result, Ok, Err}
use Rattle.std.proofs.lemmas.List.Edits.{sets}
use Rattle.paper.specs.Clauses.{Clause, pick}
use Rattle.paper.specs.Texts.{Word, value, unsigned, literal_word, literal_of}
use Rattle.paper.specs.Reasons.{reason_number}
use Rattle.words.specs.Words.{words_at}
use Rattle.literals.specs.declared.Stop.{Stop}
use Rattle.literals.specs.declared.Fault.{Fault}

-- Where the reading of a clause's literals stops, and what was read till then: at its 0, at a word that is no literal, or at the
-- text's end.
pub record ReadLiterals : Type 0 where
  -- 0, 31 or 32
  pub number : ℕ
  -- of the word that stopped it; the text's length where there was none
  pub position : ℕ
  -- those before
  pub literals : Clause
  -- where that word ends; the text's length where there was none
  pub next : ℕ
  -- the words behind it
  pub rest : List Word

abbrev pub stop_at : ℕ → Word → Clause → List Word → ReadLiterals
stop_at number w c ws =
    record { number = number; position = w.at; literals = c; next = w.at + length w.bytes; rest = ws }

abbrev pub stop_at_end : ℕ → Clause → ReadLiterals
stop_at_end end c = record { number = 32; position = end; literals = c; next = end; rest = [] }

-- `end` is the text's length, and `c` are the literals so far.
unfoldable pub literals_of : ℕ → Clause → List Word → ReadLiterals
literals_of end c [] = stop_at_end end c
literals_of end c (w ∷ ws) =
    pick (not (literal_word w.bytes)) (stop_at 31 w c ws)
    (pick (not (eqb (value (unsigned w.bytes)) 0)) (literals_of end (c ++ (literal_of w.bytes ∷ [])) ws)
    (stop_at 0 w c ws))

-- From a place of a text on.
unfoldable pub literals_at : List ℕ → ℕ → ReadLiterals
literals_at text at = literals_of (length text) [] (words_at text at)

-- The room holds the literals from its front on, as many as it has place for; its other cells are as before. The words behind are
-- those from `next` on, so that a caller can go on there, and behind a clause's 0 it is nearer to the text's end.
pub record Reads (text : List ℕ) (at : ℕ) (room : List ℤ) (number position count next : ℕ) (room' : List ℤ) : Type 0 where
  pub number_is : number ≡ (literals_at text at).number
  pub position_is : position ≡ (literals_at text at).position
  pub count_is : count ≡ length (literals_at text at).literals
  pub next_is : next ≡ (literals_at text at).next
  pub room_is : room' ≡ sets room 0 (literals_at text at).literals
  pub words_on : words_at text next ≡ (literals_at text at).rest
  pub within : next ≤ length text
  pub onward : at ≤ length text → at ≤ next
  pub further : number ≡ 0 → at < next

-- What a reading answers, in the words of the paper: 0 where it came to the clause's 0, and else the reason's number.
abbrev pub number_of : Result Stop Fault → ℕ
number_of (Ok stop) = 0
number_of (Err fault) = reason_number fault.reason

abbrev pub stop_of : Result Stop Fault → Stop
stop_of (Ok stop) = stop
stop_of (Err fault) = fault.stop
