-- The literals of a clause against the paper: what a text comes to from inside a clause on.
use mathlib.Core.Path.{◌≡◌, refl, ◌∙◌}
use mathlib.Core.Bool.{Bool, true, false, not}
use mathlib.Core.List.{List, [], ◌∷◌, ◌++◌}
use Prim.Native.Nat.{ℕ}
use lib.Dec.{eqb}
use lib.ListN.{length}
use borrow.Author.Tests.{eq-eqb, ne_eqb}
use Rattle.paper.specs.declared.Header.{Header}
use Rattle.paper.specs.Clauses.{Clause, pick}
use Rattle.paper.specs.Records.{Record}
use Rattle.paper.specs.Texts.{
  Word,
  value,
  unsigned,
  literal_word,
  literal_of,
  clause_record,
  Result,
  fault,
  between,
  within,
  complete,
  read_on,
}
use Rattle.words.specs.Words.{words_at}
use Rattle.literals.specs.Reading.{ReadLiterals, stop_at, literals_of, literals_at}

-- A clause with its 0 is complete, and the reading goes on behind it.
abbrev pub leads_on : Header → ℕ → ℕ → ℕ → List Record → ReadLiterals → Result
leads_on h end at weight done x =
    complete h at weight x.literals
    (read_on h end between (done ++ (clause_record h.top weight x.literals ∷ [])) x.rest)

abbrev pub leads_to : Header → ℕ → ℕ → ℕ → List Record → ReadLiterals → Result
leads_to h end at weight done x =
    pick (eqb x.number 0) (leads_on h end at weight done x) (fault x.number x.position)

pub on_paper : (h : Header) (end at weight : ℕ) (c : Clause) (done : List Record) (ws : List Word)
    → read_on h end (within at weight c) done ws ≡ leads_to h end at weight done (literals_of end c ws)
unfolding literals_of
on_paper h end at weight c done [] = refl
on_paper h end at weight c done (w ∷ ws) =
    go (literal_word w.bytes) (eqb (value (unsigned w.bytes)) 0) (literals_of end (c ++ (literal_of w.bytes ∷ [])) ws)
    (on_paper h end at weight (c ++ (literal_of w.bytes ∷ [])) done ws)
  where
    go : (fits zero : Bool) (x : ReadLiterals) {on : Result} → on ≡ leads_to h end at weight done x
        → pick (not fits) (fault 31 w.at) (pick (not zero) on (leads_on h end at weight done (stop_at 0 w c ws)))
        ≡ leads_to h end at weight done (pick (not fits) (stop_at 31 w c ws) (pick (not zero) x (stop_at 0 w c ws)))
    go false zero x e = refl
    go true false x e = e
    go true true x e = refl

module _ (h : Header) (end at weight : ℕ) (c : Clause) (done : List Record) (ws : List Word) where
  pub whole_clause : (literals_of end c ws).number ≡ 0
      → read_on h end (within at weight c) done ws ≡ leads_on h end at weight done (literals_of end c ws)
  whole_clause e = on_paper h end at weight c done ws ∙ rw (eq-eqb (literals_of end c ws).number 0 e)

  pub broken_clause : ((literals_of end c ws).number ≡ 0 → ⊥)
      → read_on h end (within at weight c) done ws ≡ fault (literals_of end c ws).number (literals_of end c ws).position
  broken_clause n = on_paper h end at weight c done ws ∙ rw (ne_eqb (literals_of end c ws).number 0 n)

-- The same of the words from a place of a text on, where a clause's weight has just been read.
module _ (text : List ℕ) (place : ℕ) (h : Header) (at weight : ℕ) (done : List Record) where
  pub whole_clause_at : (literals_at text place).number ≡ 0
      → read_on h (length text) (within at weight []) done (words_at text place)
      ≡ leads_on h (length text) at weight done (literals_at text place)
  unfolding literals_at
  whole_clause_at e = whole_clause h (length text) at weight [] done (words_at text place) e

  pub broken_clause_at : ((literals_at text place).number ≡ 0 → ⊥)
      → read_on h (length text) (within at weight []) done (words_at text place)
      ≡ fault (literals_at text place).number (literals_at text place).position
  unfolding literals_at
  broken_clause_at n = broken_clause h (length text) at weight [] done (words_at text place) n
