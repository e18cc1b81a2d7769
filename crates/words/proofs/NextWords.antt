-- The next word stands behind the blanks and comments, and the words behind it are those of the text from its end on.
use mathlib.Core.Path.{◌≡◌, refl, ◌∙◌, ap}
use mathlib.Core.Bool.{Bool, true, false}
use mathlib.Core.List.{List, [], ◌∷◌}
use Prim.Native.Nat.{ℕ, suc, ◌+◌, ◌-◌, ◌<◌, ◌≤◌}
use native.Mathlib.Nat.{add-zero, add-suc, suc-add}
use native.Mathlib.Omega.{arith}
use lib.Dec.{eqb}
use lib.ListN.{length, get_or, drop, drop_of_length-le, length-drop}
use lib.Seq.{drop-cons, drop-drop, get_or-drop}
use borrow.Author.Tests.{ne_eqb}
use Rattle.paper.specs.Clauses.{pick}
use Rattle.paper.specs.Texts.{
  Stand,
  first,
  behind,
  inside,
  comment,
  blank,
  after_blank,
  after_comment,
  gap,
  word,
  Word,
  word_at,
  words,
}
use Rattle.words.specs.Words.{starts_line, stand_at, words_at, gap_end, Stands, NoWord, NextWord}
use Rattle.words.proofs.Fronts.{word_front, front_taken, front_short}

-- ── Behind the blanks and comments ──

-- The words of some bytes whose first is no blank and in no comment.
starting : ℕ → List ℕ → List Word
starting at [] = []
starting at (b ∷ bytes) = word_at at (b ∷ bytes) ∷ words inside (suc at) bytes

abbrev Outside : Stand → Type 0
Outside first = Unit {0}
Outside behind = Unit {0}
Outside inside = ⊥
Outside comment = Unit {0}

outside_blank : (ends : Bool) → Outside (pick ends first behind)
outside_blank true = tt
outside_blank false = tt

outside_comment : (ends : Bool) → Outside (pick ends first comment)
outside_comment true = tt
outside_comment false = tt

-- A byte is in a comment, or a blank, or a word's first.
by_byte : (c v : Bool) (at b k m : ℕ) (bytes : List ℕ) (xs ys : List Word)
    → xs ≡ starting (suc at + k) (drop k bytes) → ys ≡ starting (suc at + m) (drop m bytes)
    → pick c xs (pick v ys (word_at at (b ∷ bytes) ∷ words inside (suc at) bytes))
    ≡ starting (at + pick c (suc k) (pick v (suc m) 0)) (drop (pick c (suc k) (pick v (suc m) 0)) (b ∷ bytes))
unfolding starting
by_byte true v at b k m bytes xs ys p q = rw (p, add-suc, suc-add)
by_byte false true at b k m bytes xs ys p q = rw (q, add-suc, suc-add)
by_byte false false at b k m bytes xs ys p q = rw add-zero

behind_gap : (stand : Stand) → Outside stand → (at : ℕ) (bytes : List ℕ)
    → words stand at bytes ≡ starting (at + gap stand bytes) (drop (gap stand bytes) bytes)
unfolding starting
behind_gap stand o at [] = refl
behind_gap first o at (b ∷ bytes) =
    by_byte (eqb b 99) (blank b) at b (gap comment bytes) (gap (after_blank b) bytes) bytes _ _
    (behind_gap comment tt (suc at) bytes) (behind_gap (after_blank b) (outside_blank (eqb b 10)) (suc at) bytes)
behind_gap behind o at (b ∷ bytes) =
    by_byte false (blank b) at b 0 (gap (after_blank b) bytes) bytes _ _
    refl (behind_gap (after_blank b) (outside_blank (eqb b 10)) (suc at) bytes)
behind_gap inside o at (b ∷ bytes) = absurd o
behind_gap comment o at (b ∷ bytes) =
    behind_gap (after_comment b) (outside_comment (eqb b 10)) (suc at) bytes ∙ rw (add-suc, suc-add)

-- The byte there is no blank.
no_blank_at : (c v : Bool) (b k m : ℕ) (bytes : List ℕ)
    → (k < length bytes → blank (get_or bytes k 0) ≡ false) → (m < length bytes → blank (get_or bytes m 0) ≡ false) → blank b ≡ v
    → pick c (suc k) (pick v (suc m) 0) < suc (length bytes)
    → blank (get_or (b ∷ bytes) (pick c (suc k) (pick v (suc m) 0)) 0) ≡ false
no_blank_at true v b k m bytes p q e h = p (omega arith)
no_blank_at false true b k m bytes p q e h = q (omega arith)
no_blank_at false false b k m bytes p q e h = e

no_blank : (stand : Stand) (bytes : List ℕ) → gap stand bytes < length bytes → blank (get_or bytes (gap stand bytes) 0) ≡ false
no_blank stand [] h = absurd (omega arith)
no_blank first (b ∷ bytes) h =
    no_blank_at (eqb b 99) (blank b) b _ _ bytes (no_blank comment bytes) (no_blank (after_blank b) bytes) refl h
no_blank behind (b ∷ bytes) h =
    no_blank_at false (blank b) b _ _ bytes (no_blank comment bytes) (no_blank (after_blank b) bytes) refl h
no_blank inside (b ∷ bytes) h =
    no_blank_at false (blank b) b _ _ bytes (no_blank comment bytes) (no_blank (after_blank b) bytes) refl h
no_blank comment (b ∷ bytes) h = no_blank (after_comment b) bytes (omega arith)

-- ── Behind a word ──

-- At a blank it is all the same whether its line starts there.
at_blank : (starts : Bool) (at b : ℕ) (bytes : List ℕ) → blank b ≡ true
    → words (after_blank b) (suc at) bytes ≡ words (pick starts first behind) at (b ∷ bytes)
at_blank true at b bytes e = rw (ne_eqb b 99 no_c, e)
  where
    no_c : b ≡ 99 → ⊥
    no_c f = let g : blank 99 ≡ true = rw f at e in let z : ◌≡◌ {A = ℕ} 0 1 = cc in omega arith
at_blank false at b bytes e = rw e

-- A word stops at a blank or at the text's end, and so it does not matter what stands before.
behind_word : (starts : Bool) (at : ℕ) (bytes : List ℕ)
    → words inside at bytes ≡ words (pick starts first behind) (at + length (word bytes)) (drop (length (word bytes)) bytes)
behind_word starts at [] = refl
behind_word starts at (b ∷ bytes) = go (blank b) refl (behind_word starts (suc at) bytes)
  where
    go : (v : Bool) → blank b ≡ v
        → words inside (suc at) bytes
        ≡ words (pick starts first behind) (suc at + length (word bytes)) (drop (length (word bytes)) bytes)
        → words inside at (b ∷ bytes)
        ≡ words (pick starts first behind) (at + length (word (b ∷ bytes))) (drop (length (word (b ∷ bytes))) (b ∷ bytes))
    go true e ih = rw (e, add-zero) (at_blank starts at b bytes e)
    go false e ih = rw (e, ih, add-suc, suc-add)

-- ── The next word ──

outside_at : (text : List ℕ) (at : ℕ) → Outside (stand_at text at)
unfolding stand_at
outside_at text at = outside_blank (starts_line text at)

module _ (text : List ℕ) (at start : ℕ) (starts : start ≡ at + gap (stand_at text at) (drop at text)) where
  words_start : words_at text at ≡ starting start (drop start text)
  unfolding words_at
  words_start = rw (behind_gap (stand_at text at) (outside_at text at), drop-drop, ← starts)

  none : length text ≤ start → words_at text at ≡ []
  unfolding starting
  none h = words_start ∙ rw (drop_of_length-le text h)

  no_blank_there : start < length text → blank (get_or text start 0) ≡ false
  no_blank_there h =
      let there = no_blank (stand_at text at) (drop at text) (omega (arith, length-drop at text)) in
      rw (← starts) at (rw get_or-drop at there)

  first_byte : start < length text → word (drop start text) ≡ get_or text start 0 ∷ word (drop (suc start) text)
  first_byte h = rw (drop-cons text start 0 h, no_blank_there h)

  one_more : (end : ℕ) → end ≡ suc start + length (word (drop (suc start) text)) → start < length text
      → starting start (drop start text) ≡ record { at = start; bytes = word (drop start text) } ∷ words_at text end
  unfolding starting words_at stand_at
  one_more end e h =
      rw (drop-cons text start 0 h, behind_word (starts_line text end) (suc start) (drop (suc start) text), drop-drop, ← e)

  some : (end : ℕ) → end ≡ start + length (word (drop start text)) → start < length text → Stands text at start end
  some end ends h =
      let long = ap length (first_byte h) in
      let size : end - start ≡ length (word (drop start text)) = omega arith in
      record {
        onward = omega arith;
        long = omega arith;
        fits = omega (arith, front_short word_front (drop start text), length-drop start text);
        words = words_start ∙ rw (size, front_taken word_front) (one_more end (omega arith) h);
      }

module _ (text : List ℕ) (at start : ℕ) (starts : start ≡ gap_end text at) where
  pub no_word : length text ≤ start → NoWord text at
  no_word h = record { over = omega (arith, h, starts); none = none text at start starts h }

  pub next_word : (end : ℕ) → end ≡ start + length (word (drop start text)) → start < length text → NextWord text at start end
  next_word end ends h = record { starts = starts; ends = ends; some = some text at start starts end ends h }
