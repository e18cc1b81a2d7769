-- A derived clause: its table in the shape that the laws of Outcomes take, and what its rooms hold after it. `words` are the hints,
-- each the number of its 8 bytes.
use mathlib.Core.Path.{◌≡◌, refl, sym, ◌∙◌, ap}
use mathlib.Core.Bool.{Bool, true, false, not, ◌||◌, ◌&&◌}
use mathlib.Core.List.{List, [], ◌∷◌, ◌++◌, map}
use mathlib.Core.Logic.{◌≢◌}
use Rattle.std.specs.Prelude.{Option, Some, None}
use Rattle.std.specs.Option.{is_some}
use Prim.Native.Nat.{ℕ, ◌+◌, ◌<◌, ◌≤◌}
use native.Mathlib.Omega.{arith}
use lib.Dec.{ltb, lit<}
use lib.IntN.{ℤ}
use lib.ListN.{length, length-append, length-map}
use borrow.Author.Tests.{lt-ltb, le-ltb, ltb-false, eq-eqb, ne_eqb, not-false}
use Rattle.paper.specs.Sizes.{narrow, derived_room, most_hints}
use Rattle.paper.specs.declared.Width.{Width}
use Rattle.paper.specs.declared.Tally.{Tally}
use Rattle.paper.specs.declared.Answer.TheVariants.{Derived, Refused}
use Rattle.paper.specs.Clauses.{Clause, every, pick}
use Rattle.paper.specs.Session.{Session, Hint, tally_of, hint_in, hint_named, hint_clause, named_literal}
use Rattle.paper.specs.Answers.{Refusal, refuse}
use Rattle.paper.specs.Derivation.{shows, misfit, assume}
use Rattle.paper.specs.Steps.{derive, admission, full, next, outcome}
use Rattle.paper.specs.Runs.{Reached}
use Rattle.paper.proofs.Lists.{passed}
use Rattle.paper.proofs.Reach.{reached_narrow}
use Rattle.clauses.specs.Lowest.{Plain, lowest, number_of}
use Rattle.clauses.specs.Family.{Appended}
use Rattle.clauses.proofs.Lists.{unlike}
use Rattle.clauses.proofs.Lowest.{admission_plain, none_applies}
use Rattle.derive.specs.Derivations.{hinted, place_of}
use Rattle.rooms.specs.Held.{HeldDerived, Zeros}
use Rattle.hints.specs.Hinted.{Rooms, HeldClauses}
use Rattle.names.specs.Names.{Knows}
use Rattle.rooms.proofs.Outcomes.{Refuses, part_refuses, full_refuses, room_accepts}
use Rattle.rooms.proofs.Families.{none_left, was_full, was_roomy, still_held, more_held}

-- ── Hints as words ──

every_words : (p : Hint → Bool) (words : List ℕ) → every p (map hint_in words) ≡ every (λ word. p (hint_in word)) words
every_words p [] = refl
every_words p (x ∷ words) = ap (λ b. p (hint_in x) && b) (every_words p words)

clauses_words : (s : Session) (words : List ℕ) → map (hint_clause s.sheet s.work) (map hint_in words) ≡ hinted s words
clauses_words s [] = refl
clauses_words s (x ∷ words) = ap (λ cs. hint_clause s.sheet s.work (hint_in x) ∷ cs) (clauses_words s words)

-- ── The lowest of two tables in a row ──

front_decides : (t rest : List Refusal) → Plain t → 0 < lowest t → lowest (t ++ rest) ≡ lowest t
front_decides [] rest plain h = absurd (omega arith)
front_decides (x ∷ t) rest plain h = go x.applies h (front_decides t rest plain.2)
  where
    go : (b : Bool) → 0 < pick b (number_of x) (lowest t) → (0 < lowest t → lowest (t ++ rest) ≡ lowest t)
        → pick b (number_of x) (lowest (t ++ rest)) ≡ pick b (number_of x) (lowest t)
    go true h ih = refl
    go false h ih = ih h

rest_decides : (t rest : List Refusal) → Plain t → lowest t ≡ 0 → lowest (t ++ rest) ≡ lowest rest
rest_decides [] rest plain e = refl
rest_decides (x ∷ t) rest plain e = go x.applies e (rest_decides t rest plain.2)
  where
    go : (b : Bool) → pick b (number_of x) (lowest t) ≡ 0 → (lowest t ≡ 0 → lowest (t ++ rest) ≡ lowest rest)
        → pick b (number_of x) (lowest (t ++ rest)) ≡ lowest rest
    go true e ih = absurd (omega (arith, plain.1))
    go false e ih = ih e

-- What the steps of hints hold, the names are known in.
pub known_in : (s : Session) → Reached s → {t : Tally} → t ≡ tally_of s → {rooms : Rooms} → HeldClauses rooms s
    → Knows t rooms.counter_ends s
known_in s r eq {rooms} H = record { reached = r; tally_is = eq; inputs = rooms.inputs; counters = H.counters }

pub zeros_wide : (s : Session) → Reached s → (values : List ℕ) → Zeros narrow values → Zeros s.sheet.width values
zeros_wide s r values z = rw (reached_narrow s r) z

-- The value rooms as they were are zeros as they were.
pub zeros_kept : {u : Width} {low low' high high' : List ℕ} → low' ≡ low → high' ≡ high → Zeros u (low ++ high) → Zeros u (low' ++ high')
zeros_kept e f z = rw (e, f) z

-- A hint that does not fit has a place, counted from 1.
pub some_place : (misfit : Option ℕ) → misfit ≢ Some 0 → true ≡ is_some misfit → place_of misfit ≡ 0 → ⊥
some_place None counted e zero = unlike (sym e)
some_place (Some place) counted e zero = counted (ap Some zero)

pub no_place : (misfit : Option ℕ) → false ≡ is_some misfit → place_of misfit ≡ 0
no_place None e = refl
no_place (Some place) e = unlike e

pub short_enough : {u v : Width} {n : ℕ} → u ≡ v → n ≤ v.literals → n ≤ u.literals
short_enough e h = rw e h

module _ (s : Session) (t : Tally) (eq : t ≡ tally_of s) (c : Clause) (words : List ℕ) where
  abbrev front : List Refusal
  front = admission s.sheet.width (named_literal s.sheet s.work) c

  abbrev rest : List Refusal
  rest =
      refuse 19 (ltb most_hints (length (map hint_in words)) || not (every (hint_named s.sheet s.work) (map hint_in words)))
      ∷ refuse 20 (not (shows c (map (hint_clause s.sheet s.work) (map hint_in words))))
      ∷ []

  front_plain : Plain front
  front_plain = admission_plain s.sheet.width (named_literal s.sheet s.work) c

  plain : Plain (front ++ rest)
  plain = (refl, omega arith, (refl, omega arith, (refl, omega arith, (refl, omega arith, (refl, omega arith, tt)))))

  abbrev crowded : Bool
  crowded = full derived_room s.work.derived c

  count_is : t.derived ≡ length s.work.derived
  count_is = ap (λ (x : Tally). x.derived) eq

  -- A clause that passed 16, 17 and 18.
  pub clause_passed : (k : ℕ) → k ≡ lowest (admission s.sheet.width (named_literal s.sheet s.work) c) → k ≡ 0
      → (every (named_literal s.sheet s.work) c ≡ true) × (length c ≤ s.sheet.width.literals)
  clause_passed k e z =
      let a = none_applies front front_plain (sym e ∙ z) in
      let b = passed (ltb s.sheet.width.literals (length c)) _ a in
      (not-false _ (passed (not (every (named_literal s.sheet s.work) c)) _ b.1).0, ltb-false _ _ b.0)

  module _ (literals : List ℤ) (ends : List ℕ) (H : HeldDerived literals ends s) where
    -- What a refusal hands back and leaves.
    abbrev Left : ℕ → List ℤ → List ℕ → Type 0
    Left k literals' ends' =
        (record { tally = t; answer = Refused k } ≡ outcome s (derive c (map hint_in words)))
        × HeldDerived literals' ends' (next s (derive c (map hint_in words)))

    left : (k : ℕ) → Refuses s t (derive c (map hint_in words)) k → Left k literals ends
    left k r = (r.out, rw r.same H)

    -- `k` is what the code found of 16, 17 and 18.
    module _ (begins : t.variables ≡ 0 → ⊥) (k : ℕ) (e : k ≡ lowest (admission s.sheet.width (named_literal s.sheet s.work) c)) where
      pub derive_refused : (k ≡ 0 → ⊥) → Left k literals ends
      derive_refused h =
          let d = front_decides front rest front_plain (rw (← e) (omega arith)) in
          left k (part_refuses s t eq (derive c (map hint_in words)) (front ++ rest) crowded refl plain begins k (e ∙ sym d) h)

      module _ (z : k ≡ 0) where
        decides : lowest (front ++ rest) ≡ lowest rest
        decides = rest_decides front rest front_plain (sym e ∙ z)

        pub derive_many : most_hints < length words → Left 19 literals ends
        derive_many h =
            let n : length (map hint_in words) ≡ length words = length-map words hint_in in
            left 19 (part_refuses s t eq (derive c (map hint_in words)) (front ++ rest) crowded refl plain begins 19
            (sym (decides ∙ rw (lt-ltb most_hints (length (map hint_in words)) (omega arith)))) (λ q. omega arith))

        module _ (few : length words ≤ most_hints) where
          short : ltb most_hints (length (map hint_in words)) ≡ false
          short = let n : length (map hint_in words) ≡ length words = length-map words hint_in in le-ltb most_hints (length (map hint_in words)) (omega arith)

          pub derive_unnamed : every (λ word. hint_named s.sheet s.work (hint_in word)) words ≡ false → Left 19 literals ends
          derive_unnamed f =
              left 19 (part_refuses s t eq (derive c (map hint_in words)) (front ++ rest) crowded refl plain begins 19
              (sym (decides ∙ rw (short, every_words (hint_named s.sheet s.work) words, f))) (λ q. omega arith))

          -- `place` is the place of the first hint that does not fit.
          module _ (found : every (λ word. hint_named s.sheet s.work (hint_in word)) words ≡ true)
              (place : ℕ) (p : place ≡ misfit (assume c) 1 (hinted s words)) where
            pub derive_unshown : (place ≡ 0 → ⊥) → Left 20 literals ends
            derive_unshown h =
                left 20 (part_refuses s t eq (derive c (map hint_in words)) (front ++ rest) crowded refl plain begins 20
                (sym (decides
                ∙ rw (short, every_words (hint_named s.sheet s.work) words, found, clauses_words s words, ← p, ne_eqb place 0 h))) (λ q. omega arith))

            module _ (shown : place ≡ 0) where
              passes : 0 ≡ lowest (front ++ rest)
              passes =
                  sym (decides
                  ∙ rw (short, every_words (hint_named s.sheet s.work) words, found, clauses_words s words, ← p, eq-eqb place 0 shown))

              pub derive_crowded : 4095 < t.derived → Left 23 literals ends
              derive_crowded h =
                  left 23 (full_refuses s t eq (derive c (map hint_in words)) (front ++ rest) crowded refl plain begins 0 passes refl
                  (none_left derived_room (lit< tt) literals ends s.work.derived H t.derived count_is c h))

              module _ (b : Bool) (literals' : List ℤ) (ends' : List ℕ) (a : Appended literals ends t.derived c b literals' ends') where
                pub derive_full : b ≡ false → Left 23 literals' ends'
                derive_full f =
                    let was = was_full derived_room (lit< tt) literals ends s.work.derived H t.derived count_is c b literals' ends' a f in
                    let r = full_refuses s t eq (derive c (map hint_in words)) (front ++ rest) crowded refl plain begins 0 passes refl was in
                    (r.out, rw r.same (still_held derived_room (lit< tt) literals ends s.work.derived H t.derived count_is c b literals' ends' a f))

                pub derive_stored : b ≡ true
                    → (record {
                      tally = record {
                        variables = t.variables;
                        rules = t.rules;
                        wishes = t.wishes;
                        derived = t.derived + 1;
                        counters = t.counters;
                        bound = t.bound;
                      };
                      answer = Derived t.derived (length c);
                    } ≡ outcome s (derive c (map hint_in words)))
                    × HeldDerived literals' ends' (next s (derive c (map hint_in words)))
                derive_stored f =
                    let was = was_roomy derived_room (lit< tt) literals ends s.work.derived H t.derived count_is c b literals' ends' a f in
                    let r = room_accepts s t eq (derive c (map hint_in words)) (front ++ rest) crowded refl plain begins 0 passes refl was in (
                      rw (eq, ← length-append s.work.derived (c ∷ [])) r.out,
                      rw r.effects (more_held derived_room (lit< tt) literals ends s.work.derived H t.derived count_is c b literals' ends' a f),
                    )
