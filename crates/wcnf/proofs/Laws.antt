-- What a complete clause comes to, and how the records of a text come together in the room.
use mathlib.Core.Path.{◌≡◌, sym, ap, ◌∙◌}
use mathlib.Core.Bool.{Bool, true, false, not, ◌&&◌}
use mathlib.Core.List.{List, [], ◌∷◌, ◌++◌}
use mathlib.Core.Logic.{◌≢◌, ◌⊎◌}
use Prim.Native.Nat.{ℕ, ◌+◌, ◌-◌, ◌<◌, ◌≤◌}
use native.Mathlib.Omega.{arith}
use lib.Dec.{eqb, leb}
use lib.IntN.{ℤ}
use lib.ListN.{length, take, drop}
use lib.Seq.{sets, length-sets}
use denote.Ref.{Bor}
use borrow.Author.Tests.{lt-ltb}
use Rattle.std.specs.Prelude.{Option, Some, None, Result as Checked, Ok, Err, IsErrAnd}
use Rattle.std.specs.List.{slice_range}
use Rattle.std.specs.Option.{MatchOption}
use Rattle.std.proofs.lemmas.Option.{cond_some}
use Rattle.paper.specs.declared.Header.{Header}
use Rattle.paper.specs.Sizes.{narrow, most_weight}
use Rattle.paper.specs.Clauses.{Clause}
use Rattle.paper.specs.Session.{problem_literal}
use Rattle.paper.specs.Answers.{lowest}
use Rattle.paper.specs.Reasons.{reason_number}
use Rattle.paper.specs.Steps.{admission}
use Rattle.paper.specs.Records.{Record}
use Rattle.paper.specs.Texts.{value, decimal_up_to, most_number, clause_record, Result, fault, between, clause_refusal, complete, read_on}
use Rattle.words.specs.Words.{words_at}
use Rattle.numerals.specs.Numerals.{numeral_of}
use Rattle.literals.specs.Reading.{literals_at}
use Rattle.literals.proofs.Reading.{front_kept}
use Rattle.literals.proofs.Paper.{whole_clause_at, broken_clause_at}
use Rattle.wcnf.specs.declared.Step.{Step}
use Rattle.wcnf.specs.declared.Fault.{Fault}
use Rattle.wcnf.specs.Steps.{clause_from, OneClause, Came}

-- ── 15 to 18 ──

abbrev bad_weight : Header → ℕ → Bool
bad_weight h weight = not (eqb weight h.top) && not (leb 1 weight && leb weight most_weight)

module _ (h : Header) (weight : ℕ) (c : Clause) where
  pub heavy : bad_weight h weight ≡ true → 15 ≡ clause_refusal h weight c
  heavy e = rw e

  pub long : bad_weight h weight ≡ false → 64 < length c → 16 ≡ clause_refusal h weight c
  long e more = rw (e, lt-ltb 64 (length c) more)

  pub admitted : (r : ℕ) → bad_weight h weight ≡ false → r ≡ lowest (admission narrow (problem_literal h.variables) c)
      → r ≡ clause_refusal h weight c
  admitted r e found = rw e found

-- What the room gives of the literals: the clause, or none where it has no place for each.
pub keeps : (front : Option (Bor (List ℤ))) (room room' : List ℤ) (count : ℕ) (c : Clause)
    → length room ≡ 64 → count ≡ length c → room' ≡ sets room 0 c
    → MatchOption front ((count < 0) ⊎ (length room' < count))
    (λ x. (0 ≤ count) × (count ≤ length room') × (x.now ≡ slice_range room' 0 count) × (length x.now + 0 ≡ count))
    → MatchOption front (64 < length c) (λ x. x.now ≡ c)
keeps None room room' count c size e s there =
    let same : length room' ≡ length room = ap length s ∙ length-sets room 0 c in
    grind arith
keeps (Some x) room room' count c size e s there =
    let same : length room' ≡ length room = ap length s ∙ length-sets room 0 c in
    let all : count - 0 ≡ length c = omega (arith, e) in
    there.2 ∙ rw (all, s) (front_kept room c (omega (arith, same, e, there.1)))

-- ── One clause ──

module _ (h : Header) (at weight : ℕ) (c : Clause) (rest : Result) where
  complete_bad : (n : ℕ) → n ≡ clause_refusal h weight c → n ≢ 0 → complete h at weight c rest ≡ fault n at
  complete_bad n e some = rw (← e, lt-ltb 0 n (omega (arith, some)))

  complete_good : 0 ≡ clause_refusal h weight c → complete h at weight c rest ≡ rest
  complete_good e = rw (← e)

-- The bytes of the weight's word.
abbrev weight_word : List ℕ → ℕ → ℕ → List ℕ
weight_word text start end = take (end - start) (drop start text)

pub no_weight : (text : List ℕ) (h : Header) (start end : ℕ) → decimal_up_to most_number (weight_word text start end) ≡ false
    → (done : List Record) → read_on h (length text) between done (clause_from text start end) ≡ fault 31 start
no_weight text h start end e done = rw e

-- The weight's word reads as a number.
module _ (text : List ℕ) (h : Header) (start end weight : ℕ) (reads : Some weight ≡ numeral_of most_number (weight_word text start end)) where
  is : (decimal_up_to most_number (weight_word text start end) ≡ true) × (value (weight_word text start end) ≡ weight)
  is = cond_some (decimal_up_to most_number (weight_word text start end)) (value (weight_word text start end)) weight (sym reads)

  abbrev came : List Record → Result
  came done = read_on h (length text) between done (clause_from text start end)

  pub no_literals : ((literals_at text end).number ≡ 0 → ⊥)
      → (done : List Record) → came done ≡ fault (literals_at text end).number (literals_at text end).position
  no_literals n done = rw (is.0, is.1) (broken_clause_at text end h start weight done n)

  pub not_allowed : (literals_at text end).number ≡ 0 → (n : ℕ) → n ≡ clause_refusal h weight (literals_at text end).literals → n ≢ 0
      → (done : List Record) → came done ≡ fault n start
  not_allowed e n refused some done =
      rw (is.0, is.1) (whole_clause_at text end h start weight done e
      ∙ complete_bad h start weight (literals_at text end).literals _ n refused some)

  pub allowed : (literals_at text end).number ≡ 0 → 0 ≡ clause_refusal h weight (literals_at text end).literals
      → (next : ℕ) → words_at text next ≡ (literals_at text end).rest
      → (done : List Record) → came done
      ≡ read_on h (length text) between (done ++ (clause_record h.top weight (literals_at text end).literals ∷ [])) (words_at text next)
  allowed e fine next on done =
      rw (is.0, is.1, on) (whole_clause_at text end h start weight done e
      ∙ complete_good h start weight (literals_at text end).literals _ fine)

-- What a fault that is handed up makes of a reading.
pub one_fault : {text : List ℕ} {h : Header} {start end : ℕ} {room : List ℕ} {at : ℕ} {r : Checked Step Fault} {room' : List ℕ} (f : Fault)
    → IsErrAnd r (λ g. g ≡ f) → length room' ≡ length room
    → ((done : List Record) → read_on h (length text) between done (clause_from text start end) ≡ fault (reason_number f.reason) f.position)
    → OneClause text h start end room at r room'
one_fault {r = Ok step} f e size goes = absurd e
one_fault {r = Err g} f e size goes = record { size = size; read = λ done. rw e (goes done) }

pub came_fault : {result : Result} {room : List ℕ} {r : Checked ℕ Fault} {room' : List ℕ} (f : Fault)
    → IsErrAnd r (λ g. g ≡ f) → length room' ≡ length room → result ≡ fault (reason_number f.reason) f.position
    → Came result room r room'
came_fault {r = Ok end} f e size goes = absurd e
came_fault {r = Err g} f e size goes = record { size = size; read = rw e goes }
