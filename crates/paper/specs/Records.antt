-- "Records": what the bytes of a record ask for, and the refusals that go before those of the step.
use Rattle.std.specs.Prelude.{Bool, not, ◌&&◌, List, [], ◌∷◌, map, ℕ, zero, suc, ◌+◌, ◌*◌, ◌-◌, ◌/◌, ◌%◌, ◌^◌, ℤ, pos, negsuc, eqb, leb, ltb, length, take, drop, get_or}
use Rattle.paper.specs.Clauses.{Clause, pick}
use Rattle.paper.specs.Session.{Session, Hint, hint_in, tally_of}
use Rattle.paper.specs.Truth.{arranged}
use Rattle.paper.specs.Answers.{Refusal, refuse, clear, answer_or}
use Rattle.paper.specs.Steps.{Step, opening, rule, wish, derive, core, judge, opened, answer, next}
use Rattle.paper.specs.declared.Answer.{Answer}
use Rattle.paper.specs.declared.Outcome.{Outcome}

pub record Record : Type 0 where
  pub kind : ℕ
  pub payload : List ℕ

-- ── Numbers in bytes ──

-- Little-endian.
abbrev pub number : List ℕ → ℕ
number [] = 0
number (b ∷ bs) = b + 256 * number bs

-- So many numbers of `size` bytes each.
abbrev pub numbers_in : ℕ → ℕ → List ℕ → List ℕ
numbers_in size zero bytes = []
numbers_in size (suc count) bytes = number (take size bytes) ∷ numbers_in size count (drop size bytes)

-- What 32 bits read as.
abbrev pub signed : ℕ → ℤ
signed bits = pick (ltb bits 2147483648) (pos bits) (negsuc (4294967295 - bits))

abbrev pub literals : ℕ → List ℕ → Clause
literals count bytes = map signed (numbers_in 4 count bytes)

abbrev pub hints : ℕ → List ℕ → List Hint
hints count bytes = map hint_in (numbers_in 8 count bytes)

-- ── What a payload holds ──

-- n, a weight, the number of a derivation's literals or the number of a derived clause.
abbrev pub first : List ℕ → ℕ
first payload = number (take 4 payload)

-- Where the hints of a derivation begin.
abbrev pub hints_at : List ℕ → ℕ
hints_at payload = 4 + 4 * first payload

abbrev pub step_of : ℕ → List ℕ → Step
step_of kind payload =
    pick (eqb kind 1) (opening (first payload))
    (pick (eqb kind 2) (rule (literals (length payload / 4) payload))
    (pick (eqb kind 3) (wish (first payload) (literals (length payload / 4 - 1) (drop 4 payload)))
    (pick (eqb kind 4)
    (derive (literals (first payload) (drop 4 payload)) (hints ((length payload - hints_at payload) / 8) (drop (hints_at payload) payload)))
    (pick (eqb kind 5) (core (first payload)) (judge (arranged payload))))))

-- As few bytes as hold n bits, and spare bits 0: behind bit n there is nothing in the byte that bit n would stand in.
abbrev pub arrangement_form : ℕ → List ℕ → Bool
arrangement_form n payload = eqb (length payload) ((n + 7) / 8) && eqb (get_or payload (n / 8) 0 / 2 ^ (n % 8)) 0

-- The payload has its kind's form, in a session of n variables.
abbrev pub formed : ℕ → ℕ → List ℕ → Bool
formed n kind payload =
    pick (eqb kind 1) (eqb (length payload) 4)
    (pick (eqb kind 2) (eqb (length payload % 4) 0)
    (pick (eqb kind 3) (leb 4 (length payload) && eqb (length payload % 4) 0)
    (pick (eqb kind 4)
    (leb 4 (length payload) && (leb (hints_at payload) (length payload) && eqb ((length payload - hints_at payload) % 8) 0))
    (pick (eqb kind 5) (eqb (length payload) 4) (arrangement_form n payload)))))

-- ── One record, one answer ──

-- 11 to 13, which go before every refusal of the step.
abbrev pub record_refusals : Session → Record → List Refusal
record_refusals s r =
    refuse 11 (not (leb 1 r.kind && leb r.kind 6))
    ∷ refuse 12 (pick (eqb r.kind 1) (opened s) (not (opened s)))
    ∷ refuse 13 (not (formed s.sheet.variables r.kind r.payload))
    ∷ []

abbrev pub step : Record → Step
step r = step_of r.kind r.payload

abbrev pub record_answer : Session → Record → Answer
record_answer s r = answer_or (record_refusals s r) (answer s (step r))

abbrev pub record_next : Session → Record → Session
record_next s r = pick (clear (record_refusals s r)) (next s (step r)) s

abbrev pub record_outcome : Session → Record → Outcome
record_outcome s r = record { tally = tally_of (record_next s r); answer = record_answer s r }
