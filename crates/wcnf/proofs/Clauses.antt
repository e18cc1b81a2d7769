-- The clauses of a text, one after the other: what is taken so far, and how it ends.
use mathlib.Core.Path.{◌≡◌, sym, ap, ◌∙◌}
use mathlib.Core.List.{List, [], ◌∷◌, ◌++◌, append_assoc, append-nil}
use Prim.Native.Nat.{ℕ, suc, ◌+◌}
use native.Mathlib.Omega.{arith}
use lib.ListN.{length, length-append}
use borrow.Author.Tests.{eq-eqb, ne_eqb}
use Rattle.paper.specs.declared.Header.{Header}
use Rattle.paper.specs.Records.{Record}
use Rattle.paper.specs.Texts.{Result, fault, between, read_on, open_record, record_bytes, all_bytes}
use Rattle.words.specs.Words.{words_at}
use Rattle.output.specs.Puts.{Put, Puts}
use Rattle.output.proofs.Rooms.{puts_none, puts_more}
use Rattle.wcnf.specs.declared.Step.{Step}
use Rattle.wcnf.specs.Steps.{clause_from, Taken, Made}

-- The records so far stand in the room, and the words from `place` on lead to the same as all of them.
pub record SoFar (text : List ℕ) (h : Header) (from : ℕ) (room room' : List ℕ) (end place clauses : ℕ) : Type 0 where
  pub done : List Record
  pub count : length done ≡ suc clauses
  pub stand : Puts room (all_bytes done) end room'
  pub goes : read_on h (length text) between (open_record h.variables ∷ []) (words_at text from)
      ≡ read_on h (length text) between done (words_at text place)

pub opened : (room : List ℕ) (r : Record) (end : ℕ) (room' : List ℕ) → Put room 0 (record_bytes r) end room'
    → Puts room (all_bytes (r ∷ [])) end room'
opened room r end room' p = rw (append-nil (record_bytes r)) (puts_more (puts_none room) p)

all_more : (rs : List Record) (r : Record) → all_bytes (rs ++ (r ∷ [])) ≡ all_bytes rs ++ record_bytes r
all_more [] r = append-nil (record_bytes r)
all_more (x ∷ rs) r = rw (all_more rs r, append_assoc (record_bytes x) (all_bytes rs) (record_bytes r))

module _ {text : List ℕ} {h : Header} {from : ℕ} {room room' : List ℕ} {end place clauses : ℕ}
    (S : SoFar text h from room room' end place clauses) where
  abbrev whole : Result
  whole = read_on h (length text) between (open_record h.variables ∷ []) (words_at text from)

  pub more : (start stop : ℕ) (r : Step) (room'' : List ℕ) → words_at text place ≡ clause_from text start stop
      → Taken text h start stop room' end r room'' → SoFar text h from room room'' r.written r.next (clauses + 1)
  more start stop r room'' words T =
      let longer = length-append S.done (T.made ∷ []) in
      record {
        done = S.done ++ (T.made ∷ []);
        count = longer ∙ omega (arith, S.count);
        stand = rw (all_more S.done T.made) (puts_more S.stand T.put);
        goes = S.goes ∙ rw words (T.goes S.done);
      }

  pub broken : (start stop : ℕ) (n p : ℕ) → words_at text place ≡ clause_from text start stop
      → read_on h (length text) between S.done (clause_from text start stop) ≡ fault n p → whole ≡ fault n p
  broken start stop n p words is = S.goes ∙ rw words is

  pub all_there : words_at text place ≡ [] → h.clauses ≡ clauses → Made whole room end room'
  all_there none same =
      let all = eq-eqb (length S.done) (suc h.clauses) (S.count ∙ ap suc (sym same)) in
      record { made = S.done; is = S.goes ∙ rw (none, all); stand = S.stand }

  pub wrong_count : words_at text place ≡ [] → (h.clauses ≡ clauses → ⊥) → whole ≡ fault 33 (length text)
  wrong_count none other =
      let few = ne_eqb (length S.done) (suc h.clauses) (λ k. other (omega (arith, k, S.count))) in
      S.goes ∙ rw (none, few)
