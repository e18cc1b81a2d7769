-- A wish: its table in the shape that the laws of Outcomes take, and what its rooms hold after it.
use mathlib.Core.Path.{◌≡◌, refl, sym, ◌∙◌, ap, subst}
use mathlib.Core.Bool.{Bool, true, false, not, ◌&&◌}
use mathlib.Core.List.{List, [], ◌∷◌, ◌++◌, map}
use Prim.Native.Nat.{ℕ, suc, ◌+◌, ◌-◌, ◌<◌, ◌≤◌}
use native.Mathlib.Omega.{arith}
use lib.Dec.{leb, lit<}
use lib.IntN.{ℤ}
use lib.ListN.{length, set, replicate, length-append, length-map}
use lib.Seq.{set_at, append_snoc}
use borrow.Author.Tests.{le-leb}
use Rattle.paper.specs.Sizes.{wish_room, most_weight, wish_variable}
use Rattle.paper.specs.declared.Tally.{Tally}
use Rattle.paper.specs.declared.Answer.TheVariants.{Wish as WishAdded, Refused}
use Rattle.paper.specs.Clauses.{Clause}
use Rattle.paper.specs.Session.{Wish, Session, tally_of, remaining, problem_literal}
use Rattle.paper.specs.Answers.{Refusal, refuse}
use Rattle.paper.specs.Steps.{wish, admission, full, next, outcome}
use Rattle.paper.specs.Runs.{Reached}
use Rattle.clauses.specs.Lowest.{Plain, lowest}
use Rattle.clauses.specs.Family.{Appended}
use Rattle.clauses.proofs.Lowest.{admission_plain}
use Rattle.weights.specs.Weights.{Weighs, gained}
use Rattle.weights.proofs.Remaining.{wish_remaining, wish_free}
use Rattle.rooms.specs.Held.{HeldIn, HeldWishes, HeldWeights, wish_family, weights_room}
use Rattle.rooms.proofs.Outcomes.{Refuses, part_refuses, full_refuses, room_accepts}
use Rattle.rooms.proofs.Families.{none_left, was_full, was_roomy, still_held, more_held}

-- ── The weights with one more ──

map_snoc : (xs : List Wish) (f : Wish → ℕ) (x : Wish) → map f (xs ++ (x ∷ [])) ≡ map f xs ++ (f x ∷ [])
map_snoc [] f x = refl
map_snoc (y ∷ xs) f x = ap (λ l. f y ∷ l) (map_snoc xs f x)

family_snoc : (xs : List Wish) (x : Wish) → wish_family (xs ++ (x ∷ [])) ≡ wish_family xs ++ (x.literals ∷ [])
family_snoc [] x = refl
family_snoc (y ∷ xs) x = ap (λ l. y.literals ∷ l) (family_snoc xs x)

weights_more : (most : ℕ) (xs : List Wish) (x : Wish) → length xs < most
    → set (weights_room most xs) (length xs) x.weight ≡ weights_room most (xs ++ (x ∷ []))
unfolding weights_room
weights_more most xs x h =
    let room : most - length xs ≡ suc (most - suc (length xs)) = omega arith in
    let long : length (xs ++ (x ∷ [])) ≡ suc (length xs) = length-append xs (x ∷ []) ∙ omega arith in
    rw (room, long, map_snoc xs (λ x. x.weight) x)
    (set_at (map (λ (x : Wish). x.weight) xs) 0 (replicate (most - suc (length xs)) 0) x.weight (length xs) (length-map xs (λ (x : Wish). x.weight))
    ∙ sym (append_snoc (map (λ (x : Wish). x.weight) xs) x.weight (replicate (most - suc (length xs)) 0)))

module _ (s : Session) (t : Tally) (eq : t ≡ tally_of s) (w : ℕ) (c : Clause) where
  abbrev table : List Refusal
  table = refuse 15 (not (leb 1 w && leb w most_weight)) ∷ admission s.sheet.width (problem_literal s.sheet.variables) c

  plain : Plain table
  plain = (refl, omega arith, admission_plain s.sheet.width (problem_literal s.sheet.variables) c)

  abbrev crowded : Bool
  crowded = full wish_room (wish_family s.sheet.wishes) c

  count_is : t.wishes ≡ length (wish_family s.sheet.wishes)
  count_is = ap (λ (x : Tally). x.wishes) eq ∙ sym (length-map s.sheet.wishes (λ (x : Wish). x.literals))

  module _ (literals : List ℤ) (ends weights left outputs : List ℕ) (H : HeldWishes literals ends weights s) (G : HeldWeights left outputs s) where
    -- What a refusal hands back and leaves.
    abbrev Left : ℕ → List ℤ → List ℕ → Type 0
    Left k literals' ends' =
        (record { tally = t; answer = Refused k } ≡ outcome s (wish w c))
        × HeldWishes literals' ends' weights (next s (wish w c)) × HeldWeights left outputs (next s (wish w c))

    left_all : (k : ℕ) → Refuses s t (wish w c) k → Left k literals ends
    left_all k r = (r.out, rw r.same H, rw r.same G)

    module _ (begins : t.variables ≡ 0 → ⊥) where
      -- `k` is what the code found of 16, 17 and 18.
      module _ (some : 1 ≤ w) (light : w ≤ most_weight) (k : ℕ)
          (e : k ≡ lowest (admission s.sheet.width (problem_literal s.sheet.variables) c)) where
        found : k ≡ lowest table
        found = rw (le-leb 1 w some, le-leb w most_weight light) e

        pub wish_refused : (k ≡ 0 → ⊥) → Left k literals ends
        wish_refused h = left_all k (part_refuses s t eq (wish w c) table crowded refl plain begins k found h)

        module _ (z : k ≡ 0) where
          pub wish_crowded : 512 ≤ t.wishes → Left 23 literals ends
          wish_crowded h =
              left_all 23 (full_refuses s t eq (wish w c) table crowded refl plain begins k found z
              (none_left wish_room (lit< tt) literals ends (wish_family s.sheet.wishes) H.clauses t.wishes count_is c h))

          module _ (b : Bool) (literals' : List ℤ) (ends' : List ℕ) (a : Appended literals ends t.wishes c b literals' ends') where
            pub wish_full : b ≡ false → Left 23 literals' ends'
            wish_full f =
                let was = was_full wish_room (lit< tt) literals ends (wish_family s.sheet.wishes) H.clauses t.wishes count_is c b literals' ends' a f in
                let r = full_refuses s t eq (wish w c) table crowded refl plain begins k found z was in (
                  r.out,
                  rw r.same (record {
                    clauses = still_held wish_room (lit< tt) literals ends (wish_family s.sheet.wishes) H.clauses t.wishes count_is c b literals' ends' a f;
                    weights_are = H.weights_are;
                  }),
                  rw r.same G,
                )

            module _ (reached : Reached s) (few : t.wishes < 512) (weights' left' : List ℕ) (stores : weights' ≡ set weights t.wishes w)
                (starts : (f : ℕ → ℕ) → Weighs s.sheet.width left outputs f → t.wishes < wish_room.clauses → f (wish_variable t.wishes) ≡ 0
                → Weighs s.sheet.width left' outputs (gained f w (wish_variable t.wishes ∷ []))) where
              long : t.wishes ≡ length s.sheet.wishes
              long = ap (λ (x : Tally). x.wishes) eq

              abbrev new : Wish
              new = record { literals = c; weight = w }

              pub wish_stored : b ≡ true
                  → (record {
                    tally = record {
                      variables = t.variables;
                      rules = t.rules;
                      wishes = t.wishes + 1;
                      derived = t.derived;
                      counters = t.counters;
                      bound = t.bound;
                    };
                    answer = WishAdded t.wishes (2001 + t.wishes);
                  } ≡ outcome s (wish w c))
                  × HeldWishes literals' ends' weights' (next s (wish w c)) × HeldWeights left' outputs (next s (wish w c))
              wish_stored f =
                  let was = was_roomy wish_room (lit< tt) literals ends (wish_family s.sheet.wishes) H.clauses t.wishes count_is c b literals' ends' a f in
                  let r = room_accepts s t eq (wish w c) table crowded refl plain begins k found z was in
                  let more = more_held wish_room (lit< tt) literals ends (wish_family s.sheet.wishes) H.clauses t.wishes count_is c b literals' ends' a f in (
                    rw (eq, ← length-append s.sheet.wishes (new ∷ [])) r.out,
                    rw r.effects (record {
                      clauses = subst (HeldIn wish_room literals' ends') (sym (family_snoc s.sheet.wishes new)) more;
                      weights_are = rw (stores, H.weights_are, long) (weights_more wish_room.clauses s.sheet.wishes new (let q = long in omega arith));
                    }),
                    rw (r.effects, wish_remaining s reached w c, ← long)
                        (starts (remaining s.sheet s.work) G (omega arith) (rw long (wish_free s reached))),
                  )
