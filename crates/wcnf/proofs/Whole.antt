-- The whole text: its header, and what the answer and the room come to once all is read.
use mathlib.Core.Path.{◌≡◌, sym, ap, ◌∙◌}
use mathlib.Core.Bool.{true}
use mathlib.Core.List.{List, [], ◌∷◌, ◌++◌}
use mathlib.Core.Logic.{◌≢◌}
use Prim.Native.Nat.{ℕ, ◌-◌, ◌<◌, ◌≤◌}
use native.Mathlib.Omega.{arith}
use lib.ListN.{length, take, replicate}
use borrow.Author.Tests.{lt-ltb, le-ltb, lt-leb, le-leb}
use Rattle.std.specs.Prelude.{Some, None, Ok, Err}
use Rattle.std.proofs.lemmas.Option.{cond_some}
use Rattle.paper.specs.Sizes.{most_variables}
use Rattle.paper.specs.Reasons.{reason_number}
use Rattle.paper.specs.Texts.{most_text, header_form, fault, between, read_on, open_record, read_text, all_bytes, fault_answer, text_answer, text_room}
use Rattle.words.specs.Words.{words_at}
use Rattle.numerals.proofs.Choices.{none_picked}
use Rattle.headers.specs.declared.Heading.{Heading}
use Rattle.headers.specs.Headings.{heading, heading_of}
use Rattle.headers.proofs.Headers.{clause_words_lem}
use Rattle.output.proofs.Rooms.{all_fits, none_fits, end_is, cleared_behind}
use Rattle.wcnf.specs.declared.Fault.{Fault}
use Rattle.wcnf.specs.Steps.{Made, Came}

-- ── The header ──

pub too_long : (text : List ℕ) → most_text < length text → read_text text ≡ fault 30 0
too_long text h = rw (lt-ltb most_text (length text) h)

module _ (text : List ℕ) (short : length text ≤ most_text) where
  pub no_header : None ≡ heading_of text → read_text text ≡ fault 30 0
  no_header e = let f = none_picked (header_form text) (heading text) e in rw (le-ltb most_text (length text) short, f)

  module _ (r : Heading) (e : Some r ≡ heading_of text) where
    there : (header_form text ≡ true) × (heading text ≡ r)
    there = cond_some (header_form text) (heading text) r (sym e)

    same : (heading text).header.variables ≡ r.header.variables
    same = ap (λ (x : Heading). x.header.variables) there.1

    pub no_variables : r.header.variables ≡ 0 → read_text text ≡ fault 14 r.at
    no_variables none =
        let n : (heading text).header.variables ≡ 0 = same ∙ none in
        rw (le-ltb most_text (length text) short, there.0, n) (ap (λ (x : Heading). fault 14 x.at) there.1)

    pub many_variables : most_variables < r.header.variables → read_text text ≡ fault 14 r.at
    many_variables many =
        let n = same in
        let upper = lt-leb (heading text).header.variables most_variables (omega (arith, n, many)) in
        let lower = le-leb 1 (heading text).header.variables (omega (arith, n, many)) in
        rw (le-ltb most_text (length text) short, there.0, lower, upper) (ap (λ (x : Heading). fault 14 x.at) there.1)

    pub with_header : r.header.variables ≢ 0 → r.header.variables ≤ most_variables
        → read_text text
        ≡ read_on r.header (length text) between (open_record r.header.variables ∷ []) (words_at text r.end)
    with_header some few =
        let n = same in
        let upper = le-leb (heading text).header.variables most_variables (omega (arith, n, few)) in
        let lower = le-leb 1 (heading text).header.variables (omega (arith, n, some)) in
        rw (le-ltb most_text (length text) short, there.0, lower, upper, clause_words_lem text)
        (ap (λ (x : Heading).
        read_on x.header (length text) between (open_record x.header.variables ∷ []) (words_at text x.end)) there.1)

-- ── The answer and the room ──

module _ (text room room' : List ℕ) where
  module _ (f : Fault) (C : Came (read_text text) room (Err f) room') where
    pub fault_answer_lem : fault_answer (reason_number f.reason) f.position ≡ text_answer text (length room)
    fault_answer_lem = rw C.read

    pub fault_room : replicate (length room') 0 ≡ text_room text (length room)
    fault_room = rw (C.read, C.size)

  module _ (end : ℕ) (C : Came (read_text text) room (Ok end) room') where
    pub short_answer : length room < end → fault_answer 34 (length text) ≡ text_answer text (length room)
    short_answer h =
        let M = C.read in
        rw (M.is, lt-ltb (length room) (length (all_bytes M.made)) (none_fits M.stand h))

    pub short_room : length room < end → replicate (length room') 0 ≡ text_room text (length room)
    short_room h =
        let M = C.read in
        rw (M.is, C.size, lt-ltb (length room) (length (all_bytes M.made)) (none_fits M.stand h))

    pub sound_answer : end ≤ length room
        → record { number = 0; position = length text; length = end } ≡ text_answer text (length room)
    sound_answer h =
        let M = C.read in
        rw (M.is, le-ltb (length room) (length (all_bytes M.made)) (all_fits M.stand h), end_is M.stand h)

pub sound_room : (text room room' : List ℕ) (end : ℕ) → Made (read_text text) room end room' → end ≤ length room
    → take end room' ++ replicate (length room' - end) 0 ≡ text_room text (length room)
sound_room text room room' end M h = rw M.is (cleared_behind M.stand h)
