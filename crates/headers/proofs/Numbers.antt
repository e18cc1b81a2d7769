-- Three numbers taken from a line one after the other, and no word more.
use mathlib.Core.Path.{◌≡◌, refl, sym, ap, ◌∙◌}
use mathlib.Core.Bool.{Bool, true, false, and-false}
use mathlib.Core.List.{List, [], ◌∷◌}
use Prim.Native.Nat.{ℕ, ◌-◌}
use native.Mathlib.Omega.{arith}
use lib.Dec.{eqb}
use lib.ListN.{length, take, drop}
use borrow.Author.Tests.{ne_eqb}
use Rattle.std.specs.Prelude.{Some, None}
use Rattle.std.proofs.lemmas.Option.{cond_some}
use Rattle.numerals.proofs.Choices.{none_picked}
use Rattle.paper.specs.Clauses.{pick}
use Rattle.paper.specs.Texts.{Word, value, most_number}
use Rattle.words.specs.Words.{words_at, NoWord, NextWord}
use Rattle.numerals.specs.Numerals.{numeral_of}
use Rattle.headers.specs.declared.Number.{Number}
use Rattle.headers.specs.Headings.{is_number, number_first, word_of, Leads, NumberAt, three_form, word_in, header_in, three_of}

-- ── One number ──

module _ (line : List ℕ) (at start end : ℕ) (next : NextWord line at start end) where
  abbrev found : Word
  found = record { at = start; bytes = take (end - start) (drop start line) }

  pub no_number : None ≡ numeral_of most_number (take (end - start) (drop start line)) → number_first (words_at line at) ≡ false
  unfolding is_number
  no_number e = ap number_first next.some.words ∙ none_picked _ _ e

  pub a_number : (n : ℕ) → Some n ≡ numeral_of most_number (take (end - start) (drop start line))
      → Leads line at (record { value = n; start = start; end = end })
  unfolding is_number
  a_number n e = let is = cond_some (is_number found) (value found.bytes) n (sym e) in record { number = is.0; value = sym is.1; words = next.some.words }

-- ── Three numbers ──

no_first : (ws : List Word) → number_first ws ≡ false → three_form ws ≡ false
no_first [] e = refl
no_first (w ∷ ws) e = rw (e, and-false (eqb (length (w ∷ ws)) 3))

no_second : (w : Word) (ws : List Word) → number_first ws ≡ false → three_form (w ∷ ws) ≡ false
no_second w [] e = refl
no_second w (v ∷ ws) e = rw (e, and-false (is_number w), and-false (eqb (length (w ∷ v ∷ ws)) 3))

no_third : (w v : Word) (ws : List Word) → number_first ws ≡ false → three_form (w ∷ v ∷ ws) ≡ false
no_third w v [] e = refl
no_third w v (u ∷ ws) e = rw (e, and-false (is_number v), and-false (is_number w), and-false (eqb (length (w ∷ v ∷ u ∷ ws)) 3))

fourth : (w v u x : Word) (ws : List Word) → three_form (w ∷ v ∷ u ∷ x ∷ ws) ≡ false
fourth w v u x ws = rw (ne_eqb (length (w ∷ v ∷ u ∷ x ∷ ws)) 3 (λ e. omega (arith, e)))

none_of : (ws : List Word) → three_form ws ≡ false → None ≡ three_of ws
none_of ws e = ap (λ (b : Bool). pick b (Some (record { header = header_in ws; at = (word_in ws 0).at })) None) (sym e)

three_of_lem : (w v u : Word) → is_number w ≡ true → is_number v ≡ true → is_number u ≡ true
    → Some (record { header = header_in (w ∷ v ∷ u ∷ []); at = w.at }) ≡ three_of (w ∷ v ∷ u ∷ [])
three_of_lem w v u p q r = rw (p, q, r)

module _ (line : List ℕ) (at : ℕ) where
  pub first_missing : NumberAt line at None → None ≡ three_of (words_at line at)
  first_missing none = none_of (words_at line at) (no_first (words_at line at) none)

  module _ (first : Number) (reads : NumberAt line at (Some first)) where
    pub second_missing : NumberAt line first.end None → None ≡ three_of (words_at line at)
    second_missing none =
        none_of (words_at line at) (ap three_form reads.words ∙ no_second (word_of line first) (words_at line first.end) none)

    module _ (second : Number) (reads₂ : NumberAt line first.end (Some second)) where
      two : words_at line at ≡ word_of line first ∷ word_of line second ∷ words_at line second.end
      two = reads.words ∙ ap (λ (ws : List Word). word_of line first ∷ ws) reads₂.words

      pub third_missing : NumberAt line second.end None → None ≡ three_of (words_at line at)
      third_missing none =
          none_of (words_at line at)
          (ap three_form two ∙ no_third (word_of line first) (word_of line second) (words_at line second.end) none)

      module _ (third : Number) (reads₃ : NumberAt line second.end (Some third)) where
        three : (ws : List Word) → words_at line third.end ≡ ws
            → words_at line at ≡ word_of line first ∷ word_of line second ∷ word_of line third ∷ ws
        three ws e =
            two
            ∙ ap (λ (ws : List Word). word_of line first ∷ word_of line second ∷ ws)
            (reads₃.words ∙ ap (λ (ws : List Word). word_of line third ∷ ws) e)

        pub one_too_many : (start end : ℕ) → NextWord line third.end start end → None ≡ three_of (words_at line at)
        one_too_many start end next =
            let x : Word = record { at = start; bytes = take (end - start) (drop start line) } in
            let more = three (x ∷ words_at line end) next.some.words in
            none_of (words_at line at)
            (ap three_form more ∙ fourth (word_of line first) (word_of line second) (word_of line third) x (words_at line end))

        pub three_numbers : NoWord line third.end
            → Some (record { header = record { variables = first.value; clauses = second.value; top = third.value }; at = first.start })
            ≡ three_of (words_at line at)
        three_numbers next =
            (λ i. Some (record {
              header = record { variables = reads.value i; clauses = reads₂.value i; top = reads₃.value i };
              at = first.start;
            }))
            ∙ three_of_lem (word_of line first) (word_of line second) (word_of line third) reads.number reads₂.number reads₃.number
            ∙ ap three_of (sym (three [] next.none))
