-- A rule: its table in the shape that the laws of Outcomes take, and what its rooms hold after it.
use mathlib.Core.Path.{◌≡◌, refl, ap}
use mathlib.Core.Bool.{Bool, true, false}
use mathlib.Core.List.{List, [], ◌∷◌}
use Prim.Native.Nat.{ℕ, ◌+◌, ◌<◌}
use lib.Dec.{lit<}
use lib.IntN.{ℤ}
use lib.ListN.{length, length-append}
use Rattle.paper.specs.Sizes.{rule_room}
use Rattle.paper.specs.declared.Tally.{Tally}
use Rattle.paper.specs.declared.Answer.TheVariants.{Rule, Refused}
use Rattle.paper.specs.Clauses.{Clause}
use Rattle.paper.specs.Session.{Session, tally_of, problem_literal}
use Rattle.paper.specs.Answers.{Refusal}
use Rattle.paper.specs.Steps.{rule, admission, full, next, outcome}
use Rattle.clauses.specs.Lowest.{Plain, lowest}
use Rattle.clauses.specs.Family.{Appended}
use Rattle.clauses.proofs.Lowest.{admission_plain}
use Rattle.rooms.specs.Held.{HeldRules}
use Rattle.rooms.proofs.Outcomes.{Refuses, part_refuses, full_refuses, room_accepts}
use Rattle.rooms.proofs.Families.{none_left, was_full, was_roomy, still_held, more_held}

module _ (s : Session) (t : Tally) (eq : t ≡ tally_of s) (c : Clause) where
  abbrev table : List Refusal
  table = admission s.sheet.width (problem_literal s.sheet.variables) c

  plain : Plain (admission s.sheet.width (problem_literal s.sheet.variables) c)
  plain = admission_plain s.sheet.width (problem_literal s.sheet.variables) c

  abbrev crowded : Bool
  crowded = full rule_room s.sheet.rules c

  count_is : t.rules ≡ length s.sheet.rules
  count_is = ap (λ (x : Tally). x.rules) eq

  module _ (literals : List ℤ) (ends : List ℕ) (H : HeldRules literals ends s) where
    -- What a refusal hands back and leaves.
    abbrev Left : ℕ → List ℤ → List ℕ → Type 0
    Left k literals' ends' = (record { tally = t; answer = Refused k } ≡ outcome s (rule c)) × HeldRules literals' ends' (next s (rule c))

    left : (k : ℕ) → Refuses s t (rule c) k → Left k literals ends
    left k r = (r.out, rw r.same H)

    -- `k` is what the code found of 16, 17 and 18.
    module _ (begins : t.variables ≡ 0 → ⊥) (k : ℕ) (e : k ≡ lowest (admission s.sheet.width (problem_literal s.sheet.variables) c)) where
      pub rule_refused : (k ≡ 0 → ⊥) → Left k literals ends
      rule_refused h = left k (part_refuses s t eq (rule c) table crowded refl plain begins k e h)

      module _ (z : k ≡ 0) where
        pub rule_crowded : 2047 < t.rules → Left 23 literals ends
        rule_crowded h =
            left 23 (full_refuses s t eq (rule c) table crowded refl plain begins k e z
            (none_left rule_room (lit< tt) literals ends s.sheet.rules H t.rules count_is c h))

        module _ (b : Bool) (literals' : List ℤ) (ends' : List ℕ) (a : Appended literals ends t.rules c b literals' ends') where
          pub rule_full : b ≡ false → Left 23 literals' ends'
          rule_full f =
              let was = was_full rule_room (lit< tt) literals ends s.sheet.rules H t.rules count_is c b literals' ends' a f in
              let r = full_refuses s t eq (rule c) table crowded refl plain begins k e z was in
              (r.out, rw r.same (still_held rule_room (lit< tt) literals ends s.sheet.rules H t.rules count_is c b literals' ends' a f))

          pub rule_stored : b ≡ true
              → (record {
                tally = record {
                  variables = t.variables;
                  rules = t.rules + 1;
                  wishes = t.wishes;
                  derived = t.derived;
                  counters = t.counters;
                  bound = t.bound;
                };
                answer = Rule t.rules;
              } ≡ outcome s (rule c))
              × HeldRules literals' ends' (next s (rule c))
          rule_stored f =
              let was = was_roomy rule_room (lit< tt) literals ends s.sheet.rules H t.rules count_is c b literals' ends' a f in
              let r = room_accepts s t eq (rule c) table crowded refl plain begins k e z was in (
                rw (eq, ← length-append s.sheet.rules (c ∷ [])) r.out,
                rw r.effects (more_held rule_room (lit< tt) literals ends s.sheet.rules H t.rules count_is c b literals' ends' a f),
              )
