-- "The older WCNF text": a text becomes records, or a number with the place of the fault. A place is counted in bytes from 0.
use Rattle.std.specs.Prelude.{Bool, true, false, not, ◌||◌, ◌&&◌, List, [], ◌∷◌, ◌++◌, ℕ, zero, suc, ◌+◌, ◌*◌, ◌-◌, ◌/◌, ◌%◌, ℤ, pos, negsuc, eqb, leb, ltb, length, drop, get_or, replicate}
use Rattle.paper.specs.declared.Header.{Header}
use Rattle.paper.specs.declared.TextAnswer.{TextAnswer}
use Rattle.paper.specs.Sizes.{narrow, most_variables, most_weight}
use Rattle.paper.specs.Clauses.{Clause, every, pick}
use Rattle.paper.specs.Session.{problem_literal}
use Rattle.paper.specs.Answers.{refuse, lowest}
use Rattle.paper.specs.Steps.{admission}
use Rattle.paper.specs.Records.{Record}

abbrev pub most_text : ℕ
most_text = 16384

-- ── Words ──

-- Space, tab, CR, LF.
abbrev pub blank : ℕ → Bool
blank b = eqb b 32 || (eqb b 9 || (eqb b 13 || eqb b 10))

-- Where the next byte stands: first in its line, behind a blank, in a word, or in a comment.
pub data Stand : Type 0 where
  first : Stand
  behind : Stand
  inside : Stand
  comment : Stand

-- Behind a blank, and behind a byte of a comment: an LF ends the line.
abbrev pub after_blank : ℕ → Stand
after_blank b = pick (eqb b 10) first behind

abbrev pub after_comment : ℕ → Stand
after_comment b = pick (eqb b 10) first comment

-- How many bytes of blanks and comments stand at the front. Only the very first byte of a line makes it a comment.
abbrev pub gap : Stand → List ℕ → ℕ
gap stand [] = 0
gap first (b ∷ bytes) = pick (eqb b 99) (suc (gap comment bytes)) (pick (blank b) (suc (gap (after_blank b) bytes)) 0)
gap behind (b ∷ bytes) = pick (blank b) (suc (gap (after_blank b) bytes)) 0
gap inside (b ∷ bytes) = pick (blank b) (suc (gap (after_blank b) bytes)) 0
gap comment (b ∷ bytes) = suc (gap (after_comment b) bytes)

-- The bytes up to the first blank.
abbrev pub word : List ℕ → List ℕ
word [] = []
word (b ∷ bytes) = pick (blank b) [] (b ∷ word bytes)

pub record Word : Type 0 where
  pub at : ℕ
  pub bytes : List ℕ

-- A word begins here.
abbrev pub word_at : ℕ → List ℕ → Word
word_at at bytes = record { at = at; bytes = word bytes }

-- The words of some bytes that begin at a place.
abbrev pub words : Stand → ℕ → List ℕ → List Word
words stand at [] = []
words first at (b ∷ bytes) =
    pick (eqb b 99) (words comment (suc at) bytes)
    (pick (blank b) (words (after_blank b) (suc at) bytes) (word_at at (b ∷ bytes) ∷ words inside (suc at) bytes))
words behind at (b ∷ bytes) =
    pick (blank b) (words (after_blank b) (suc at) bytes) (word_at at (b ∷ bytes) ∷ words inside (suc at) bytes)
words inside at (b ∷ bytes) = words (pick (blank b) (after_blank b) inside) (suc at) bytes
words comment at (b ∷ bytes) = words (after_comment b) (suc at) bytes

-- ── Numbers ──

abbrev pub digit : ℕ → Bool
digit b = leb 48 b && leb b 57

-- The value of some digits behind others of value v.
abbrev pub value_from : ℕ → List ℕ → ℕ
value_from v [] = v
value_from v (b ∷ bytes) = value_from (10 * v + (b - 48)) bytes

abbrev pub value : List ℕ → ℕ
value = value_from 0

-- Numbers go by value: leading zeros are as good as none.
abbrev pub decimal_up_to : ℕ → List ℕ → Bool
decimal_up_to most bytes = ltb 0 (length bytes) && (every digit bytes && leb (value bytes) most)

abbrev pub most_number : ℕ
most_number = 4294967295

-- A minus sign is allowed before literals only, and −0 is none.
abbrev pub minus : List ℕ → Bool
minus bytes = eqb (get_or bytes 0 0) 45

abbrev pub unsigned : List ℕ → List ℕ
unsigned bytes = pick (minus bytes) (drop 1 bytes) bytes

abbrev pub literal_word : List ℕ → Bool
literal_word bytes = decimal_up_to 2147483647 (unsigned bytes) && not (minus bytes && eqb (value (unsigned bytes)) 0)

abbrev pub literal_of : List ℕ → ℤ
literal_of bytes = pick (minus bytes) (negsuc (value (unsigned bytes) - 1)) (pos (value (unsigned bytes)))

-- ── The header ──

-- `p wcnf`
abbrev pub header_start : List ℕ
header_start = 112 ∷ 32 ∷ 119 ∷ 99 ∷ 110 ∷ 102 ∷ []

abbrev pub begins : List ℕ → List ℕ → Bool
begins [] bytes = true
begins (b ∷ word) [] = false
begins (b ∷ word) (c ∷ bytes) = eqb b c && begins word bytes

-- The bytes up to the line's end.
abbrev pub line : List ℕ → List ℕ
line [] = []
line (b ∷ bytes) = pick (eqb b 10) [] (b ∷ line bytes)

-- Where the header begins, what stands behind its six bytes on its line, and the words of that.
abbrev pub header_at : List ℕ → ℕ
header_at text = gap first text

abbrev pub header_line : List ℕ → List ℕ
header_line text = line (drop (header_at text + 6) text)

abbrev pub header_words : List ℕ → List Word
header_words text = words behind (header_at text + 6) (header_line text)

-- Three numbers, each after blanks, and no more.
abbrev pub header_form : List ℕ → Bool
header_form text =
    begins header_start (drop (header_at text) text)
    && (blank (get_or (header_line text) 0 0)
    && (eqb (length (header_words text)) 3 && every (λ (w : Word). decimal_up_to most_number w.bytes) (header_words text)))

abbrev pub header_word : List ℕ → ℕ → Word
header_word text i = get_or (header_words text) i (record { at = 0; bytes = [] })

abbrev pub header_of : List ℕ → Header
header_of text =
    record {
      variables = value (header_word text 0).bytes;
      clauses = value (header_word text 1).bytes;
      top = value (header_word text 2).bytes;
    }

-- The words behind the header's line.
abbrev pub clause_words : List ℕ → List Word
clause_words text =
    words first (header_at text + 7 + length (header_line text)) (drop (header_at text + 7 + length (header_line text)) text)

-- ── Records as bytes ──

-- Little-endian.
abbrev pub bytes_for : ℕ → ℕ → List ℕ
bytes_for zero n = []
bytes_for (suc size) n = n % 256 ∷ bytes_for size (n / 256)

-- The 32 bits of a literal.
abbrev pub bits_of : ℤ → ℕ
bits_of (pos v) = v
bits_of (negsuc v) = 4294967295 - v

abbrev pub literal_bytes : Clause → List ℕ
literal_bytes [] = []
literal_bytes (l ∷ c) = bytes_for 4 (bits_of l) ++ literal_bytes c

abbrev pub record_bytes : Record → List ℕ
record_bytes r = bytes_for 4 (2 + length r.payload) ++ (bytes_for 2 r.kind ++ r.payload)

abbrev pub all_bytes : List Record → List ℕ
all_bytes [] = []
all_bytes (r ∷ rs) = record_bytes r ++ all_bytes rs

abbrev pub open_record : ℕ → Record
open_record n = record { kind = 1; payload = bytes_for 4 n }

-- A clause is a rule exactly when its weight equals top; every other weight makes a wish.
abbrev pub clause_record : ℕ → ℕ → Clause → Record
clause_record top weight c =
    pick (eqb weight top) (record { kind = 2; payload = literal_bytes c })
    (record { kind = 3; payload = bytes_for 4 weight ++ literal_bytes c })

-- ── Clauses ──

-- What a text comes to: its records, or a number with the place of the fault.
pub data Result : Type 0 where
  records : List Record → Result
  fault : ℕ → ℕ → Result

-- Between two clauses, or in one: where it began, its weight, and its literals so far.
pub data State : Type 0 where
  between : State
  within : ℕ → ℕ → Clause → State

-- 15 to 18, when a clause is complete.
abbrev pub clause_refusal : Header → ℕ → Clause → ℕ
clause_refusal h weight c =
    lowest (refuse 15 (not (eqb weight h.top) && not (leb 1 weight && leb weight most_weight)) ∷ admission narrow (problem_literal h.variables) c)

-- A clause is complete; `rest` is what its record and the words behind it lead to.
abbrev pub complete : Header → ℕ → ℕ → Clause → Result → Result
complete h at weight c rest = pick (ltb 0 (clause_refusal h weight c)) (fault (clause_refusal h weight c) at) rest

-- `end` is the text's length, and `done` are the records so far, the opening among them.
abbrev pub read_on : Header → ℕ → State → List Record → List Word → Result
read_on h end between done [] = pick (eqb (length done) (suc h.clauses)) (records done) (fault 33 end)
read_on h end (within at weight c) done [] = fault 32 end
read_on h end between done (w ∷ ws) =
    pick (decimal_up_to most_number w.bytes) (read_on h end (within w.at (value w.bytes) []) done ws) (fault 31 w.at)
read_on h end (within at weight c) done (w ∷ ws) =
    pick (not (literal_word w.bytes)) (fault 31 w.at)
    (pick (not (eqb (value (unsigned w.bytes)) 0)) (read_on h end (within at weight (c ++ (literal_of w.bytes ∷ []))) done ws)
    (complete h at weight c (read_on h end between (done ++ (clause_record h.top weight c ∷ [])) ws)))

-- ── The whole text ──

abbrev pub read_text : List ℕ → Result
read_text text =
    pick (ltb most_text (length text) || not (header_form text)) (fault 30 0)
    (pick (not (leb 1 (header_of text).variables && leb (header_of text).variables most_variables)) (fault 14 (header_word text 0).at)
    (read_on (header_of text) (length text) between (open_record (header_of text).variables ∷ []) (clause_words text)))

abbrev pub fault_answer : ℕ → ℕ → TextAnswer
fault_answer number position = record { number = number; position = position; length = 0 }

-- 34, where the lent room is too short, goes last.
abbrev pub answer_in : ℕ → ℕ → Result → TextAnswer
answer_in end room (records rs) =
    pick (ltb room (length (all_bytes rs))) (fault_answer 34 end) (record { number = 0; position = end; length = length (all_bytes rs) })
answer_in end room (fault number position) = fault_answer number position

abbrev pub text_answer : List ℕ → ℕ → TextAnswer
text_answer text room = answer_in (length text) room (read_text text)

-- What the room holds then: the records and zeros behind them, or zeros.
abbrev pub filled : ℕ → List ℕ → List ℕ
filled room bytes = pick (ltb room (length bytes)) (replicate room 0) (bytes ++ replicate (room - length bytes) 0)

abbrev pub room_in : ℕ → Result → List ℕ
room_in room (records rs) = filled room (all_bytes rs)
room_in room (fault number position) = replicate room 0

abbrev pub text_room : List ℕ → ℕ → List ℕ
text_room text room = room_in room (read_text text)
