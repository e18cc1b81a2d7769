-- What one byte makes of the blanks and comments that are still to be passed.
use mathlib.Core.Path.{◌≡◌, refl}
use mathlib.Core.Bool.{Bool, true, false}
use mathlib.Core.List.{List, ◌∷◌}
use Prim.Native.Nat.{ℕ, suc, ◌+◌, ◌<◌, ◌≤◌}
use native.Mathlib.Nat.{add-zero, add-suc, suc-add}
use native.Mathlib.Numerals.{add-one}
use lib.Dec.{eqb}
use lib.ListN.{length, get_or, drop, drop_of_length-le}
use lib.Seq.{drop-cons}
use borrow.Author.Tests.{ne_eqb}
use Rattle.paper.specs.Clauses.{pick}
use Rattle.paper.specs.Texts.{first, behind, comment, blank, after_blank, gap}
use Rattle.words.specs.Words.{starts_line, stand_at}

abbrev pub past_blanks : List ℕ → ℕ → ℕ
past_blanks text at = at + gap (stand_at text at) (drop at text)

abbrev pub past_comment : List ℕ → ℕ → ℕ
past_comment text at = at + gap comment (drop at text)

pub blanks_over : (text : List ℕ) (place : ℕ) → length text ≤ place → past_blanks text place ≡ place
blanks_over text place h = rw (drop_of_length-le text h, add-zero)

pub comment_over : (text : List ℕ) (place : ℕ) → length text ≤ place → past_comment text place ≡ place
comment_over text place h = rw (drop_of_length-le text h, add-zero)

-- For a byte that is no `c` it is all the same whether its line starts there.
no_c : (starts : Bool) (b : ℕ) (bytes : List ℕ) → eqb b 99 ≡ false
    → gap (pick starts first behind) (b ∷ bytes) ≡ pick (blank b) (suc (gap (after_blank b) bytes)) 0
no_c true b bytes e = rw e
no_c false b bytes e = refl

module _ (text : List ℕ) (place : ℕ) (h : place < length text) where
  pub comment_starts : get_or text place 0 ≡ 99 → starts_line text place ≡ true
      → past_blanks text place ≡ past_comment text (place + 1)
  unfolding stand_at
  comment_starts c l = rw (l, drop-cons text place 0 h, c, add-one, add-suc, suc-add)

  pub c_in_line : get_or text place 0 ≡ 99 → starts_line text place ≡ false → past_blanks text place ≡ place
  unfolding stand_at
  c_in_line c l = rw (l, drop-cons text place 0 h, c, add-zero)

  pub word_starts : (get_or text place 0 ≡ 99 → ⊥) → blank (get_or text place 0) ≡ false
      → past_blanks text place ≡ place
  unfolding stand_at
  word_starts n b =
      rw (
        drop-cons text place 0 h,
        no_c (starts_line text place) (get_or text place 0) (drop (suc place) text) (ne_eqb _ _ n),
        b,
        add-zero,
      )

  pub blank_passed : (get_or text place 0 ≡ 99 → ⊥) → blank (get_or text place 0) ≡ true
      → past_blanks text place ≡ past_blanks text (place + 1)
  unfolding stand_at starts_line
  blank_passed n b =
      rw (
        drop-cons text place 0 h,
        no_c (starts_line text place) (get_or text place 0) (drop (suc place) text) (ne_eqb _ _ n),
        b,
        add-one,
        add-suc,
        suc-add,
      )

  pub comment_ends : get_or text place 0 ≡ 10 → past_comment text place ≡ past_blanks text (place + 1)
  unfolding stand_at starts_line
  comment_ends e = rw (drop-cons text place 0 h, add-one, e, add-suc, suc-add)

  pub comment_goes_on : (get_or text place 0 ≡ 10 → ⊥) → past_comment text place ≡ past_comment text (place + 1)
  comment_goes_on n = rw (drop-cons text place 0 h, ne_eqb _ _ n, add-one, add-suc, suc-add)
