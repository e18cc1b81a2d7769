-- The header's line in a text: its six bytes, the blank behind them, and its words.
use mathlib.Core.Path.{◌≡◌, refl, sym, ap, ◌∙◌}
use mathlib.Core.Bool.{Bool, true, false, ◌&&◌, false≢true}
use mathlib.Core.List.{List, [], ◌∷◌}
use Prim.Native.Nat.{ℕ, zero, suc, ◌+◌, ◌-◌, ◌<◌, ◌≤◌}
use native.Mathlib.Omega.{arith}
use lib.Dec.{eqb, ltb}
use lib.ListN.{length, take, drop, get_or, length-drop, drop_of_length-le}
use lib.Seq.{take-add, drop_at, length-take-le, get_or-take, get_or-drop}
use borrow.Author.Tests.{eqb-true, eq-eqb, ltb-true, ltb-false}
use Rattle.std.specs.Prelude.{Some, None}
use Rattle.paper.specs.Clauses.{pick}
use Rattle.paper.specs.Texts.{
  first,
  behind,
  gap,
  blank,
  words,
  line,
  begins,
  header_start,
  header_at,
  header_line,
  header_words,
  header_form,
  header_word,
  header_of,
  clause_words,
}
use Rattle.paper.proofs.Lists.{and_split, and_both}
use Rattle.words.specs.Words.{starts_line, stand_at, words_at}
use Rattle.words.proofs.Fronts.{line_front, front_taken, front_short}
use Rattle.headers.specs.declared.Three.{Three}
use Rattle.headers.specs.Headings.{is_number, three_form, three_of, heading, heading_of}
use Rattle.std.proofs.lemmas.Option.{cond_some}
use Rattle.numerals.proofs.Choices.{none_picked}
use Rattle.std.proofs.lemmas.Bool.{and_left, and_right}

-- ── A word that some bytes begin with ──

begins_short : (word bytes : List ℕ) → begins word bytes ≡ true → length word ≤ length bytes
begins_short [] bytes e = omega arith
begins_short (b ∷ word) [] e = absurd (false≢true e)
begins_short (b ∷ word) (c ∷ bytes) e =
    let rest = begins_short word bytes (and_split (eqb b c) (begins word bytes) e).1 in omega (arith, rest)

begins_byte : (word bytes : List ℕ) (i : ℕ) → begins word bytes ≡ true → i < length word → get_or bytes i 0 ≡ get_or word i 0
begins_byte [] bytes i e h = absurd (omega arith)
begins_byte (b ∷ word) [] i e h = absurd (false≢true e)
begins_byte (b ∷ word) (c ∷ bytes) zero e h = sym (eqb-true b c (and_split (eqb b c) (begins word bytes) e).0)
begins_byte (b ∷ word) (c ∷ bytes) (suc i) e h =
    begins_byte word bytes i (and_split (eqb b c) (begins word bytes) e).1 (omega arith)

six_fit : (text : List ℕ) (start : ℕ) → begins header_start (drop start text) ≡ true → start + 6 ≤ length text
six_fit text start b = omega (arith, begins_short header_start (drop start text) b, length-drop start text)

-- ── The form ──

-- The three tests of the form.
abbrev start_test : List ℕ → Bool
start_test text = begins header_start (drop (header_at text) text)

abbrev blank_test : List ℕ → Bool
blank_test text = blank (get_or (header_line text) 0 0)

abbrev numbers_test : List ℕ → Bool
numbers_test text = three_form (header_words text)

form_is : (text : List ℕ) → header_form text ≡ (start_test text && (blank_test text && numbers_test text))
unfolding is_number
form_is text = refl

pub heading_none : (text : List ℕ) → header_form text ≡ false → None ≡ heading_of text
heading_none text e = rw e

start_fails : (text : List ℕ) → start_test text ≡ false → None ≡ heading_of text
start_fails text e = heading_none text (form_is text ∙ and_left _ _ e)

blank_fails : (text : List ℕ) → blank_test text ≡ false → None ≡ heading_of text
blank_fails text e = heading_none text (form_is text ∙ and_right (start_test text) _ (and_left _ _ e))

numbers_fail : (text : List ℕ) → numbers_test text ≡ false → None ≡ heading_of text
numbers_fail text e = heading_none text (form_is text ∙ and_right (start_test text) _ (and_right (blank_test text) _ e))

pub heading_some : (text : List ℕ) → header_form text ≡ true → Some (heading text) ≡ heading_of text
heading_some text e = rw e

passed : (text : List ℕ) → start_test text ≡ true → blank_test text ≡ true → numbers_test text ≡ true → Some (heading text) ≡ heading_of text
passed text p q r =
    heading_some text (form_is text ∙ and_both (start_test text) _ p (and_both (blank_test text) (numbers_test text) q r))

-- ── From the text's start to the line's end ──

starts_at : (text : List ℕ) (start : ℕ) → start ≡ 0 + gap (stand_at text 0) (drop 0 text) → start ≡ header_at text
unfolding stand_at starts_line
starts_at text start e = omega (arith, e)

-- Whether a line starts is said by the byte before.
line_starts : (text : List ℕ) (place at : ℕ) → place ≡ suc at → (b : Bool) → eqb (get_or text at 0) 10 ≡ b → starts_line text place ≡ b
unfolding starts_line
line_starts text place at e b f = rw e f

-- The three numbers of a header, as the paper reads them.
abbrev three_in : List ℕ → Three
three_in text = record { header = header_of text; at = (header_word text 0).at }

module _ (text : List ℕ) (start : ℕ) (is : start ≡ 0 + gap (stand_at text 0) (drop 0 text)) where
  start_is : start ≡ header_at text
  start_is = starts_at text start is

  begins_is : begins header_start (drop start text) ≡ start_test text
  begins_is = ap (λ n. begins header_start (drop n text)) start_is

  pub no_start : begins header_start (drop start text) ≡ false → None ≡ heading_of text
  no_start e = start_fails text (sym begins_is ∙ e)

  module _ (b : begins header_start (drop start text) ≡ true) where
    pub start_fits : start + 6 ≤ length text
    start_fits = six_fit text start b

    -- The last of the six bytes.
    last_byte : get_or text (start + 5) 0 ≡ 102
    last_byte = sym (get_or-drop start text 5 0) ∙ begins_byte header_start (drop start text) 5 b (omega arith)

    module _ (end : ℕ) (e : end ≡ start + 6 + length (line (drop (start + 6) text))) where
      pub line_fits : end ≤ length text
      line_fits =
          omega (arith, e, start_fits, front_short line_front (drop (start + 6) text), length-drop (start + 6) text)

      line_is : line (drop (start + 6) text) ≡ header_line text
      line_is = ap (λ n. line (drop (n + 6) text)) start_is

      size : length (header_line text) ≡ end - (start + 6)
      size = let same = ap length line_is in omega (arith, e, same)

      taken : header_line text ≡ take (end - (start + 6)) (drop (start + 6) text)
      taken =
          let n : length (line (drop (start + 6) text)) ≡ end - (start + 6) = omega (arith, e) in
          sym line_is ∙ sym (front_taken line_front (drop (start + 6) text)) ∙ ap (λ n. take n (drop (start + 6) text)) n

      pub no_line : end ≤ start + 6 → None ≡ heading_of text
      no_line h =
          let n : end - (start + 6) ≡ 0 = omega (arith, h) in
          let none : header_line text ≡ [] = taken ∙ rw n in
          blank_fails text (ap (λ (bytes : List ℕ). blank (get_or bytes 0 0)) none)

      module _ (h : start + 6 < end) where
        blank_is : blank (get_or text (start + 6) 0) ≡ blank_test text
        blank_is =
            let n : start + 6 + 0 ≡ start + 6 = omega arith in
            let there : get_or (header_line text) 0 0 ≡ get_or text (start + 6) 0 =
            ap (λ (bytes : List ℕ). get_or bytes 0 0) taken
            ∙ get_or-take (end - (start + 6)) (drop (start + 6) text) 0 0 (omega (arith, h))
            ∙ get_or-drop (start + 6) text 0 0
            ∙ ap (λ n. get_or text n 0) n in
            ap blank (sym there)

        pub no_blank : blank (get_or text (start + 6) 0) ≡ false → None ≡ heading_of text
        no_blank f = blank_fails text (sym blank_is ∙ f)

        -- The stretch that ends with the line has the header's words.
        rest : drop (start + 6) (take end text) ≡ header_line text
        rest =
            let n : end ≡ start + 6 + (end - (start + 6)) = omega (arith, h) in
            ap (λ n. drop (start + 6) (take n text)) n
            ∙ ap (drop (start + 6)) (take-add (start + 6) (end - (start + 6)) text)
            ∙ drop_at (take (start + 6) text) (take (end - (start + 6)) (drop (start + 6) text)) (start + 6)
            (length-take-le (start + 6) text start_fits)
            ∙ sym taken

        -- It begins behind an `f`, and so behind no LF.
        in_line : stand_at (take end text) (start + 6) ≡ behind
        unfolding stand_at
        in_line =
            let byte : get_or (take end text) (start + 5) 0 ≡ 102 = get_or-take end text (start + 5) 0 (omega (arith, h)) ∙ last_byte in
            let starts = line_starts (take end text) (start + 6) (start + 5) (omega arith) false (rw byte) in
            rw starts

        words_are : words_at (take end text) (start + 6) ≡ header_words text
        unfolding words_at
        words_are = rw (in_line, rest, start_is)

        pub not_three : None ≡ three_of (words_at (take end text) (start + 6)) → None ≡ heading_of text
        not_three t = numbers_fail text (none_picked (numbers_test text) (three_in text) (t ∙ ap three_of words_are))

        pub header_read : (three : Three) → Some three ≡ three_of (words_at (take end text) (start + 6))
            → blank (get_or text (start + 6) 0) ≡ true
            → Some (record { header = three.header; at = three.at; end = end + 1 }) ≡ heading_of text
        header_read three t k =
            let is = cond_some (numbers_test text) (three_in text) three (sym (t ∙ ap three_of words_are)) in
            let next : end + 1 ≡ header_at text + 7 + length (header_line text) = omega (arith, h, start_is, size) in
            (λ i. Some (record { header = (sym is.1 i).header; at = (sym is.1 i).at; end = next i }))
            ∙ passed text (sym begins_is ∙ b) (sym blank_is ∙ k) is.0

-- ── For callers ──

pub header_fits : (text : List ℕ) → header_form text ≡ true → header_at text + 6 ≤ length text
header_fits text e =
    six_fit text (header_at text) (and_split (start_test text) (blank_test text && numbers_test text) (sym (form_is text) ∙ e)).0

-- The clauses begin behind the text's end by one at most.
pub clauses_within : (text : List ℕ) → header_form text ≡ true → header_at text + 7 + length (header_line text) ≤ length text + 1
clauses_within text e =
    let short = front_short line_front (drop (header_at text + 6) text) in
    omega (arith, header_fits text e, short, length-drop (header_at text + 6) text)

-- A line's end is an LF or the text's end.
line_stops : (bytes : List ℕ) → length (line bytes) < length bytes → get_or bytes (length (line bytes)) 0 ≡ 10
line_stops [] h = absurd (omega arith)
line_stops (b ∷ bytes) h = go (eqb b 10) refl h (line_stops bytes)
  where
    go : (stops : Bool) → eqb b 10 ≡ stops → length (pick stops [] (b ∷ line bytes)) < suc (length bytes)
        → (length (line bytes) < length bytes → get_or bytes (length (line bytes)) 0 ≡ 10)
        → get_or (b ∷ bytes) (length (pick stops [] (b ∷ line bytes))) 0 ≡ 10
    go true e k ih = eqb-true b 10 e
    go false e k ih = ih (omega arith)

-- Behind a line's end a line starts; past the text's end there are no words, wherever they would stand.
behind_line : (text : List ℕ) (at end next : ℕ) → end ≡ at + length (line (drop at text)) → next ≡ suc end
    → words first next (drop next text) ≡ words_at text next
unfolding words_at stand_at
behind_line text at end next e f = go (ltb end (length text)) refl
  where
    stops : end < length text → eqb (get_or text end 0) 10 ≡ true
    stops h =
        let lf = line_stops (drop at text) (omega (arith, h, e, length-drop at text)) in
        eq-eqb (get_or text end 0) 10 (ap (λ n. get_or text n 0) e ∙ sym (get_or-drop at text (length (line (drop at text))) 0) ∙ lf)

    go : (b : Bool) → ltb end (length text) ≡ b → words first next (drop next text) ≡ words_at text next
    go true h = rw (line_starts text next end f true (stops (ltb-true end (length text) h)))
    go false h = rw (drop_of_length-le text {i = next} (omega (arith, f, ltb-false end (length text) h)))

pub clause_words_lem : (text : List ℕ) → clause_words text ≡ words_at text (header_at text + 7 + length (header_line text))
clause_words_lem text =
    let end = header_at text + 6 + length (header_line text) in
    behind_line text (header_at text + 6) end (header_at text + 7 + length (header_line text)) refl (omega arith)
