-- A step refuses more literals or hints than it takes, whichever they are: one more is as good as all.
use mathlib.Core.Path.{◌≡◌, refl, ap, sym, ◌∙◌}
use mathlib.Core.Bool.{Bool, true, false, not, ◌||◌}
use mathlib.Core.List.{List, [], ◌∷◌, ◌++◌}
use Prim.Native.Nat.{ℕ, zero, suc, min, ◌<◌}
use native.Mathlib.Omega.{arith}
use lib.Dec.{ltb}
use lib.ListN.{length, take, drop, length-map}
use borrow.Author.Tests.{lt-ltb, ltb-true, ltb-false}
use Rattle.paper.specs.Sizes.{most_hints}
use Rattle.paper.specs.Clauses.{Clause, every, pick}
use Rattle.paper.specs.Session.{Session, Hint, hint_in, tally_of, hint_named}
use Rattle.paper.specs.Answers.{Refusal, refuse, answer_or, clear}
use Rattle.paper.specs.Steps.{Step, rule, wish, derive, opened, refusals, reply, accepted, answer, next, outcome}
use Rattle.paper.specs.Runs.{Reached}
use Rattle.paper.specs.Records.{numbers_in, signed, literals, hints}
use Rattle.paper.specs.declared.Answer.{Answer}
use Rattle.paper.proofs.Tables.{not_clear, next_refused}
use Rattle.paper.proofs.Reach.{reached_narrow}

-- Two steps that a session answers alike.
pub record Alike (s : Session) (m m' : Step) : Type 0 where
  pub answers : answer s m ≡ answer s m'
  pub after : next s m ≡ next s m'

pub alike_out : (s : Session) (m m' : Step) → Alike s m m' → outcome s m ≡ outcome s m'
alike_out s m m' k = λ i. record { tally = tally_of (k.after i); answer = k.answers i }

same_first : (above below below' : List Refusal) (r : Refusal) (other other' : Answer) → r.applies ≡ true
    → answer_or (above ++ (r ∷ below)) other ≡ answer_or (above ++ (r ∷ below')) other'
same_first [] below below' r other other' e = rw e
same_first (x ∷ above) below below' r other other' e =
    ap (pick x.applies x.answer) (same_first above below below' r other other' e)

-- Where two tables begin alike up to a refusal that applies.
alike : (s : Session) (m m' : Step) (above below below' : List Refusal) (number : ℕ)
    → refusals s m ≡ above ++ (refuse number true ∷ below) → refusals s m' ≡ above ++ (refuse number true ∷ below') → Alike s m m'
alike s m m' above below below' number e e' =
    let no : accepted s m ≡ false = ap clear e ∙ not_clear above below (refuse number true) refl in
    let no' : accepted s m' ≡ false = ap clear e' ∙ not_clear above below' (refuse number true) refl in
    record {
      answers =
          ap (λ (t : List Refusal). answer_or t (reply s m)) e
          ∙ same_first above below below' (refuse number true) (reply s m) (reply s m') refl
          ∙ sym (ap (λ (t : List Refusal). answer_or t (reply s m')) e');
      after = next_refused s m no ∙ sym (next_refused s m' no');
    }

-- ── Each step ──

module _ (s : Session) (c c' : Clause) (long : ltb s.sheet.width.literals (length c) ≡ true)
    (long' : ltb s.sheet.width.literals (length c') ≡ true) where
  rule_alike : Alike s (rule c) (rule c')
  rule_alike =
      let above = refuse 12 (not (opened s)) ∷ [] in
      let rest = drop 2 (refusals s (rule c)) in
      let rest' = drop 2 (refusals s (rule c')) in
      alike s (rule c) (rule c') above rest rest' 16
      (ap (λ b. above ++ (refuse 16 b ∷ rest)) long) (ap (λ b. above ++ (refuse 16 b ∷ rest')) long')

  wish_alike : (w : ℕ) → Alike s (wish w c) (wish w c')
  wish_alike w =
      let above = take 2 (refusals s (wish w c)) in
      let rest = drop 3 (refusals s (wish w c)) in
      let rest' = drop 3 (refusals s (wish w c')) in
      alike s (wish w c) (wish w c') above rest rest' 16
      (ap (λ b. above ++ (refuse 16 b ∷ rest)) long) (ap (λ b. above ++ (refuse 16 b ∷ rest')) long')

  derive_alike : (hs : List Hint) → Alike s (derive c hs) (derive c' hs)
  derive_alike hs =
      let above = refuse 12 (not (opened s)) ∷ [] in
      let rest = drop 2 (refusals s (derive c hs)) in
      let rest' = drop 2 (refusals s (derive c' hs)) in
      alike s (derive c hs) (derive c' hs) above rest rest' 16
      (ap (λ b. above ++ (refuse 16 b ∷ rest)) long) (ap (λ b. above ++ (refuse 16 b ∷ rest')) long')

hints_alike : (s : Session) (c : Clause) (hs hs' : List Hint) → ltb most_hints (length hs) ≡ true → ltb most_hints (length hs') ≡ true
    → Alike s (derive c hs) (derive c hs')
hints_alike s c hs hs' long long' =
    let above = take 4 (refusals s (derive c hs)) in
    let rest = drop 5 (refusals s (derive c hs)) in
    let rest' = drop 5 (refusals s (derive c hs')) in
    alike s (derive c hs) (derive c hs') above rest rest' 19
    (ap (λ b. above ++ (refuse 19 (b || not (every (hint_named s.sheet s.work) hs)) ∷ rest)) long)
    (ap (λ b. above ++ (refuse 19 (b || not (every (hint_named s.sheet s.work) hs')) ∷ rest')) long')

-- ── A record's first literals and hints ──

length_numbers : (size count : ℕ) (bytes : List ℕ) → length (numbers_in size count bytes) ≡ count
length_numbers size zero bytes = refl
length_numbers size (suc count) bytes = ap suc (length_numbers size count (drop size bytes))

length_literals : (count : ℕ) (bytes : List ℕ) → length (literals count bytes) ≡ count
length_literals count bytes = length-map (numbers_in 4 count bytes) signed ∙ length_numbers 4 count bytes

length_hints : (count : ℕ) (bytes : List ℕ) → length (hints count bytes) ≡ count
length_hints count bytes = length-map (numbers_in 8 count bytes) hint_in ∙ length_numbers 8 count bytes

-- `m` is a step by how many of them it has.
first_of : (s : Session) (count most : ℕ) (m : ℕ → Step) → ((k k' : ℕ) → most < k → most < k' → Alike s (m k) (m k'))
    → Alike s (m (min count (suc most))) (m count)
first_of s count most m long = choose (ltb most count) refl
  where
    choose : (b : Bool) → ltb most count ≡ b → Alike s (m (min count (suc most))) (m count)
    choose true e =
        let more : most < count = ltb-true most count e in
        long (min count (suc most)) count (omega arith) more
    choose false e =
        let all : min count (suc most) ≡ count = omega (arith, ltb-false most count e) in
        record { answers = ap (λ k. answer s (m k)) all; after = ap (λ k. next s (m k)) all }

module _ (s : Session) (reached : Reached s) where
  long_clause : (bytes : List ℕ) (k : ℕ) → 64 < k → ltb s.sheet.width.literals (length (literals k bytes)) ≡ true
  long_clause bytes k h = rw (reached_narrow s reached, length_literals k bytes) (lt-ltb 64 k h)

  pub first_rule : (count : ℕ) (bytes : List ℕ) → Alike s (rule (literals (min count 65) bytes)) (rule (literals count bytes))
  first_rule count bytes =
      first_of s count 64 (λ k. rule (literals k bytes))
      (λ k k' h h'. rule_alike s _ _ (long_clause bytes k h) (long_clause bytes k' h'))

  pub first_wish_lem : (w count : ℕ) (bytes : List ℕ) → Alike s (wish w (literals (min count 65) bytes)) (wish w (literals count bytes))
  first_wish_lem w count bytes =
      first_of s count 64 (λ k. wish w (literals k bytes))
      (λ k k' h h'. wish_alike s _ _ (long_clause bytes k h) (long_clause bytes k' h') w)

  long_hints : (bytes : List ℕ) (k : ℕ) → 256 < k → ltb most_hints (length (hints k bytes)) ≡ true
  long_hints bytes k h = rw (length_hints k bytes) (lt-ltb 256 k h)

  pub first_derive : (count many : ℕ) (bytes more : List ℕ)
      → Alike s (derive (literals (min count 65) bytes) (hints (min many 257) more)) (derive (literals count bytes) (hints many more))
  first_derive count many bytes more =
      let fewer = first_of s count 64 (λ k. derive (literals k bytes) (hints (min many 257) more))
      (λ k k' h h'. derive_alike s _ _ (long_clause bytes k h) (long_clause bytes k' h') (hints (min many 257) more)) in
      let shorter = first_of s many 256 (λ k. derive (literals count bytes) (hints k more))
      (λ k k' h h'. hints_alike s (literals count bytes) _ _ (long_hints more k h) (long_hints more k' h')) in
      record { answers = fewer.answers ∙ shorter.answers; after = fewer.after ∙ shorter.after }
