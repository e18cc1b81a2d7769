-- A turn of the reading: what is still to come leads where the whole does.
use mathlib.Core.Path.{◌≡◌, refl, sym, ◌∙◌, ap}
use mathlib.Core.Bool.{true}
use mathlib.Core.List.{List, [], ◌∷◌, ◌++◌}
use Prim.Native.Nat.{ℕ, suc, ◌+◌, ◌-◌, ◌≤◌, ◌<◌}
use native.Mathlib.Omega.{arith}
use lib.IntN.{ℤ, pos}
use lib.ListN.{length, take, drop, set, length-append, length-drop, drop_of_length-le}
use lib.Seq.{sets, sets-eq, length-take-le, take-append_seam}
use Rattle.std.specs.Prelude.{Some, None}
use Rattle.std.proofs.lemmas.Option.{cond_some}
use Rattle.paper.specs.Clauses.{Clause}
use Rattle.paper.specs.Texts.{Word, literal_word, literal_of}
use Rattle.words.specs.Words.{words_at, NoWord, NextWord}
use Rattle.numerals.specs.Numerals.{literal_in}
use Rattle.numerals.proofs.Choices.{none_picked}
use Rattle.literals.specs.Reading.{ReadLiterals, stop_at, stop_at_end, literals_of, literals_at, Reads}
use Rattle.literals.proofs.Words.{no_literal, zero_ends, one_more, zero_word, some_word}

sets_snoc : {A : Type 0} (room : List A) (at : ℕ) (xs : List A) (x : A)
    → sets room at (xs ++ (x ∷ [])) ≡ set (sets room at xs) (at + length xs) x
sets_snoc room at [] x = let e : at + 0 ≡ at = omega arith in rw e
sets_snoc room at (y ∷ xs) x =
    let e : at + suc (length xs) ≡ suc at + length xs = omega arith in
    rw e (sets_snoc (set room at y) (suc at) xs x)

sets_end : (room : List ℤ) (c : Clause) (l : ℤ) → sets room 0 (c ++ (l ∷ [])) ≡ set (sets room 0 c) (length c) l
sets_end room c l = let e : 0 + length c ≡ length c = omega arith in rw e at (sets_snoc room 0 c l)

-- Where the room has place for all of them, its front is the clause.
pub front_kept : (room : List ℤ) (c : Clause) → length c ≤ length room → take (length c) (sets room 0 c) ≡ c
front_kept room c h = rw (sets-eq c room 0 (omega arith), take-append_seam)

-- Up to `place` so many literals were read and kept, one byte at least for each.
pub record Reading (text : List ℕ) (at : ℕ) (room₀ room : List ℤ) (place count : ℕ) : Type 0 where
  pub kept : Clause
  pub counted : count ≡ length kept
  pub stored : room ≡ sets room₀ 0 kept
  pub goes_on : literals_at text at ≡ literals_of (length text) kept (words_at text place)
  pub few : at + count ≤ place

pub none_read : (text : List ℕ) (at : ℕ) (room : List ℤ) → Reading text at room room at 0
unfolding literals_at
none_read text at room = record { kept = []; counted = refl; stored = refl; goes_on = refl; few = omega arith }

-- The bytes between two places, and the word that they are.
abbrev bytes_between : List ℕ → ℕ → ℕ → List ℕ
bytes_between text start end = take (end - start) (drop start text)

abbrev word_there : List ℕ → ℕ → ℕ → Word
word_there text start end = record { at = start; bytes = bytes_between text start end }

words_over : (text : List ℕ) (at : ℕ) → length text ≤ at → words_at text at ≡ []
unfolding words_at
words_over text at h = rw (drop_of_length-le text h)

module _ {text : List ℕ} {at : ℕ} {room₀ room : List ℤ} {place count : ℕ} (R : Reading text at room₀ room place count) where
  -- Whatever stopped it, the answer is read off.
  answered : (x : ReadLiterals) → literals_at text at ≡ x → x.literals ≡ R.kept → words_at text x.next ≡ x.rest
      → x.next ≤ length text → (at ≤ length text → at ≤ x.next) → (x.number ≡ 0 → at < x.next)
      → Reads text at room₀ x.number x.position count x.next room
  answered x e k words within onward further =
      record {
        number_is = ap (λ (y : ReadLiterals). y.number) (sym e);
        position_is = ap (λ (y : ReadLiterals). y.position) (sym e);
        count_is = R.counted ∙ ap length (sym k) ∙ ap (λ (y : ReadLiterals). length y.literals) (sym e);
        next_is = ap (λ (y : ReadLiterals). y.next) (sym e);
        room_is = R.stored ∙ ap (sets room₀ 0) (sym k) ∙ ap (λ (y : ReadLiterals). sets room₀ 0 y.literals) (sym e);
        words_on = words ∙ ap (λ (y : ReadLiterals). y.rest) (sym e);
        within = within;
        onward = onward;
        further = further;
      }

  pub at_end : NoWord text place → Reads text at room₀ 32 (length text) count (length text) room
  unfolding literals_of
  at_end N =
      answered (stop_at_end (length text) R.kept) (R.goes_on ∙ ap (literals_of (length text) R.kept) N.none) refl
      (words_over text (length text) (omega arith)) (omega arith) (λ k. k) (λ k. absurd (omega arith))

  -- A word is found.
  module _ {start end : ℕ} (N : NextWord text place start end) where
    long : start + length (bytes_between text start end) ≡ end
    long =
        let S = N.some in
        let t = length-take-le (end - start) (drop start text) (omega (arith, S.fits, length-drop start text)) in
        omega (arith, t, S.long)

    here : literals_at text at ≡ literals_of (length text) R.kept ((word_there text start end) ∷ words_at text end)
    here = R.goes_on ∙ ap (literals_of (length text) R.kept) N.some.words

    stopped : (number : ℕ) → literals_at text at ≡ stop_at number (word_there text start end) R.kept (words_at text end)
        → Reads text at room₀ number start count end room
    stopped number f =
        let S = N.some in
        let x : ReadLiterals = record { number = number; position = start; literals = R.kept; next = end; rest = words_at text end } in
        let g : literals_at text at ≡ x =
        f ∙ ap (λ n. record { number = number; position = start; literals = R.kept; next = n; rest = words_at text end }) long in
        answered x g refl refl S.fits (λ k. omega (arith, S.onward, S.long, R.few)) (λ k. omega (arith, S.onward, S.long, R.few))

    pub stopped_by_word : None ≡ literal_in (bytes_between text start end) → Reads text at room₀ 31 start count end room
    stopped_by_word e =
        stopped 31 (here ∙ no_literal (length text) R.kept (word_there text start end) (words_at text end) (none_picked _ _ e))

    -- It is a literal, or the 0.
    module _ {l : ℤ} (e : Some l ≡ literal_in (bytes_between text start end)) where
      is : (literal_word (bytes_between text start end) ≡ true) × (literal_of (bytes_between text start end) ≡ l)
      is = cond_some (literal_word (bytes_between text start end)) (literal_of (bytes_between text start end)) l (sym e)

      pub stopped_by_zero : l ≡ pos 0 → Reads text at room₀ 0 start count end room
      stopped_by_zero z =
          let size = zero_word (bytes_between text start end) (is.1 ∙ z) in
          stopped 0 (here ∙ zero_ends (length text) R.kept (word_there text start end) (words_at text end) is.0 size)

      pub read_more : (l ≡ pos 0 → ⊥) → {room' : List ℤ} → room' ≡ set room count l → Reading text at room₀ room' end (count + 1)
      read_more n s =
          let S = N.some in
          let some = some_word (bytes_between text start end) is.0 (λ z. n (sym is.1 ∙ z)) in
          let x = literal_of (bytes_between text start end) in
          record {
            kept = R.kept ++ (x ∷ []);
            counted = rw length-append (ap (λ n. n + 1) R.counted);
            stored = s ∙ rw (R.stored, R.counted, ← is.1) (sym (sets_end room₀ R.kept x));
            goes_on = here ∙ one_more (length text) R.kept (word_there text start end) (words_at text end) is.0 some;
            few = omega (arith, S.onward, S.long, R.few);
          }
