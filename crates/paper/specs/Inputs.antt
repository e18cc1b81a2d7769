-- A run over a whole input: its records one after the other, and the text of the lines that the runner prints. Every list of
-- bytes is an input.
use Rattle.std.specs.Prelude.{not, ◌&&◌, List, [], ◌∷◌, ◌++◌, ℕ, zero, suc, ◌+◌, ◌-◌, ◌/◌, ◌%◌, leb, ltb, length, take, drop}
use Rattle.paper.specs.Clauses.{pick}
use Rattle.paper.specs.Session.{Session, fresh}
use Rattle.paper.specs.Answers.{give, numbers}
use Rattle.paper.specs.Runs.{Line}
use Rattle.paper.specs.Records.{Record, number, record_answer, record_next}
use Rattle.paper.specs.declared.Front.{Front}
use Rattle.paper.specs.declared.Front.TheVariants.{Short, Wrong, Whole}

-- ── The records of an input ──

-- The length of what follows it in a record.
abbrev pub length_in : List ℕ → ℕ
length_in bytes = number (take 4 bytes)

-- What stands at the front of some bytes.
abbrev pub front : List ℕ → Front
front bytes =
    pick (ltb (length bytes) 4) Short
    (pick (not (leb 2 (length_in bytes) && leb (length_in bytes) 4096)) Wrong
    (pick (ltb (length bytes) (4 + length_in bytes)) Short (Whole (length_in bytes))))

-- The record of this length at the front.
abbrev pub record_in : ℕ → List ℕ → Record
record_in n bytes = record { kind = number (take 2 (drop 4 bytes)); payload = take (n - 2) (drop 6 bytes) }

abbrev pub onFront {ℓ} : {A : Type ℓ} → Front → A → A → (ℕ → A) → A
onFront Short short wrong whole = short
onFront Wrong short wrong whole = wrong
onFront (Whole n) short wrong whole = whole n

-- The records that stand whole at the front, one after the other, but no more than `most`.
abbrev pub records_in : ℕ → List ℕ → List Record
records_in zero bytes = []
records_in (suc most) bytes = onFront (front bytes) [] [] (λ n. record_in n bytes ∷ records_in most (drop (4 + n) bytes))

-- The bytes that records take.
abbrev pub bytes_of : List Record → ℕ
bytes_of [] = 0
bytes_of (r ∷ rs) = 6 + length r.payload + bytes_of rs

-- ── Their lines ──

abbrev pub record_line : ℕ → Session → Record → Line
record_line place s r = record { place = place; kind = r.kind; given = numbers (record_answer s r) }

-- The place counts every record, accepted or not.
abbrev pub record_lines : ℕ → Session → List Record → List Line
record_lines place s [] = []
record_lines place s (r ∷ rs) = record_line place s r ∷ record_lines (suc place) (record_next s r) rs

abbrev pub after : Session → List Record → Session
after s [] = s
after s (r ∷ rs) = after (record_next s r) rs

-- 10, where the run ends.
abbrev pub end_line : ℕ → Line
end_line place = record { place = place; kind = 0; given = give 10 0 0 }

-- Behind the last whole record there is nothing, or else 10 is given.
abbrev pub end_lines : ℕ → List ℕ → List Line
end_lines place [] = []
end_lines place (b ∷ bytes) = end_line place ∷ []

-- The run from a place and a session on. No input has more records than bytes.
abbrev pub run_from : ℕ → Session → List ℕ → List Line
run_from place s bytes =
    record_lines place s (records_in (length bytes) bytes)
    ++ end_lines (place + length (records_in (length bytes) bytes)) (drop (bytes_of (records_in (length bytes) bytes)) bytes)

abbrev pub run : List ℕ → List Line
run = run_from 1 fresh

-- ── As text ──

-- The digits of n, the last one last; the first number bounds how many there are.
unfoldable pub digits : ℕ → ℕ → List ℕ
digits zero n = []
digits (suc most) n = pick (ltb n 10) ((48 + n) ∷ []) (digits most (n / 10) ++ ((48 + n % 10) ∷ []))

unfoldable pub decimal : ℕ → List ℕ
decimal n = digits (suc n) n

-- Place, kind, answer and two values, with single spaces.
unfoldable pub line_text : Line → List ℕ
line_text l =
    decimal l.place ++ 32
    ∷ decimal l.kind ++ 32
    ∷ decimal l.given.number ++ 32
    ∷ decimal l.given.first ++ 32
    ∷ decimal l.given.second ++ 10
    ∷ []

unfoldable pub text : List Line → List ℕ
text [] = []
text (l ∷ ls) = line_text l ++ text ls

-- What the runner prints for an input.
abbrev pub printed_for : List ℕ → List ℕ
printed_for bytes = text (run bytes)
