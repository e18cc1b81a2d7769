-- What the functions beneath the reader come to, in the words of the paper's reading.
use Rattle.std.specs.Prelude.{◌≡◌, List, [], ◌∷◌, ◌++◌, ℕ, ◌-◌, ◌≤◌, ◌<◌, length, take, drop, Result as Checked, Ok, Err}
use Rattle.paper.specs.declared.Header.{Header}
use Rattle.paper.specs.Records.{Record}
use Rattle.paper.specs.Texts.{Word, Result, records, fault, between, read_on, record_bytes, all_bytes}
use Rattle.paper.specs.Reasons.{reason_number}
use Rattle.words.specs.Words.{words_at}
use Rattle.output.specs.Puts.{Put, Puts}
use Rattle.wcnf.specs.declared.Step.{Step}
use Rattle.wcnf.specs.declared.Fault.{Fault}

-- The words from a clause's weight on, which stands from `start` to `end`.
abbrev pub clause_from : List ℕ → ℕ → ℕ → List Word
clause_from text start end = record { at = start; bytes = take (end - start) (drop start text) } ∷ words_at text end

-- A clause was taken: its record is put, and the reading goes on behind its 0.
pub record Taken (text : List ℕ) (h : Header) (start end : ℕ) (room : List ℕ) (at : ℕ) (r : Step) (room' : List ℕ) : Type 0 where
  pub made : Record
  pub put : Put room at (record_bytes made) r.written room'
  pub onward : end < r.next
  pub within : r.next ≤ length text
  pub goes : (done : List Record)
      → read_on h (length text) between done (clause_from text start end)
      ≡ read_on h (length text) between (done ++ (made ∷ [])) (words_at text r.next)

-- What one clause comes to: it is taken, or the whole text is at fault.
abbrev pub ClauseRead : List ℕ → Header → ℕ → ℕ → List ℕ → ℕ → Checked Step Fault → List ℕ → Type 0
ClauseRead text h start end room at (Ok step) room' = Taken text h start end room at step room'
ClauseRead text h start end room at (Err f) room' =
    (done : List Record) → read_on h (length text) between done (clause_from text start end) ≡ fault (reason_number f.reason) f.position

pub record OneClause (text : List ℕ) (h : Header) (start end : ℕ) (room : List ℕ) (at : ℕ) (r : Checked Step Fault) (room' : List ℕ) : Type 0 where
  pub size : length room' ≡ length room
  pub read : ClauseRead text h start end room at r room'

-- All records of a text stand in the room, as far as they fit.
pub record Made (result : Result) (room : List ℕ) (end : ℕ) (room' : List ℕ) : Type 0 where
  pub made : List Record
  pub is : result ≡ records made
  pub stand : Puts room (all_bytes made) end room'

-- What a reading came to: the end of the records, or a fault.
abbrev pub TextRead : Result → List ℕ → Checked ℕ Fault → List ℕ → Type 0
TextRead result room (Ok end) room' = Made result room end room'
TextRead result room (Err f) room' = result ≡ fault (reason_number f.reason) f.position

pub record Came (result : Result) (room : List ℕ) (r : Checked ℕ Fault) (room' : List ℕ) : Type 0 where
  pub size : length room' ≡ length room
  pub read : TextRead result room r room'
