-- All rooms of a session: zeroed ones hold the fresh session, a session's rooms are one content, and a step leaves what it does
-- not write.
use mathlib.Core.Path.{◌≡◌, refl, sym, ◌∙◌, subst}
use mathlib.Core.Bool.{Bool, true, false}
use mathlib.Core.List.{List}
use Prim.Native.Nat.{ℕ}
use lib.IntN.{ℤ, pos}
use lib.ListN.{replicate}
use Rattle.paper.specs.Sizes.{Room, narrow, rule_room, wish_room, derived_room}
use Rattle.paper.specs.Clauses.{Clause, pick}
use Rattle.paper.specs.Session.{Session, Hint, fresh}
use Rattle.paper.specs.Steps.{Step, opening, rule, wish, derive, core, accepted, effect, next}
use Rattle.paper.specs.Runs.{Reached}
use Rattle.paper.proofs.Accepted.{opens}
use Rattle.paper.proofs.Later.{closed_fresh}
use Rattle.clauses.proofs.Family.{holds_none}
use Rattle.weights.proofs.Rooms.{zeros_weigh}
use Rattle.weights.specs.Weights.{output_places}
use Rattle.rooms.specs.Held.{Rooms, Held, HeldIn, HeldRules, HeldWishes, HeldDerived, HeldCounters, HeldWeights, counter_room, weights_room, with_rules, with_wishes, with_derived, with_counters}

-- ── Zeroed rooms ──

abbrev pub zeroed : Rooms
zeroed =
    record {
      rules = replicate rule_room.literals (pos 0);
      rule_ends = replicate rule_room.clauses 0;
      wishes = replicate wish_room.literals (pos 0);
      wish_ends = replicate wish_room.clauses 0;
      wish_weights = replicate wish_room.clauses 0;
      derived = replicate derived_room.literals (pos 0);
      derived_ends = replicate derived_room.clauses 0;
      inputs = replicate (counter_room narrow).literals (pos 0);
      counter_ends = replicate (counter_room narrow).clauses 0;
      left = replicate wish_room.clauses 0;
      outputs = replicate (output_places narrow) 0;
    }

pub fresh_held : Held zeroed fresh
unfolding weights_room
fresh_held =
    record {
      rules = holds_none rule_room.literals rule_room.clauses;
      wishes = record { clauses = holds_none wish_room.literals wish_room.clauses; weights_are = refl };
      derived = holds_none derived_room.literals derived_room.clauses;
      counters = holds_none (counter_room narrow).literals (counter_room narrow).clauses;
      weights = zeros_weigh narrow;
    }

-- ── One content ──

family_one : (room : Room) (family : List Clause) (literals literals' : List ℤ) (ends ends' : List ℕ) → HeldIn room literals ends family
    → HeldIn room literals' ends' family → (literals ≡ literals') × (ends ≡ ends')
family_one room family literals literals' ends ends' H H' = (H.literals_are ∙ sym H'.literals_are, H.ends_are ∙ sym H'.ends_are)

-- Two contents that hold one session are the same, so a contract that says which session the rooms hold leaves one content.
pub one_content : (s : Session) (x y : Rooms) → Held x s → Held y s → x ≡ y
one_content s x y H K =
    let r = family_one _ _ _ _ _ _ H.rules K.rules in
    let w = family_one _ _ _ _ _ _ H.wishes.clauses K.wishes.clauses in
    let d = family_one _ _ _ _ _ _ H.derived K.derived in
    let c = family_one _ _ _ _ _ _ H.counters K.counters in
    let ww = H.wishes.weights_are ∙ sym K.wishes.weights_are in
    let l = H.weights.wishes_are ∙ sym K.weights.wishes_are in
    let o = H.weights.outputs_are ∙ sym K.weights.outputs_are in
    λ i. record {
      rules = r.0 i;
      rule_ends = r.1 i;
      wishes = w.0 i;
      wish_ends = w.1 i;
      wish_weights = ww i;
      derived = d.0 i;
      derived_ends = d.1 i;
      inputs = c.0 i;
      counter_ends = c.1 i;
      left = l i;
      outputs = o i;
    }

-- ── What a step does not write ──

pub next_keeps : (s : Session) (m : Step) (P : Session → Type 0) → P (effect s m) → P s → P (next s m)
next_keeps s m P e k = go (accepted s m)
  where
    go : (b : Bool) → P (pick b (effect s m) s)
    go true = e
    go false = k

-- An opening writes no room: only a fresh session can be opened.
pub opening_held : (s : Session) (n : ℕ) (rooms : Rooms) → Reached s → Held rooms s → Held rooms (next s (opening n))
opening_held s n rooms r H = go (accepted s (opening n)) refl
  where
    blank : Held rooms fresh → Held rooms (effect s (opening n))
    blank K =
        record {
          rules = K.rules;
          wishes = record { clauses = K.wishes.clauses; weights_are = K.wishes.weights_are };
          derived = K.derived;
          counters = K.counters;
          weights = K.weights;
        }

    go : (b : Bool) → accepted s (opening n) ≡ b → Held rooms (pick b (effect s (opening n)) s)
    go false e = H
    go true e = blank (subst (Held rooms) (closed_fresh s r (opens s n e).closed) H)

module _ (s : Session) (rooms : Rooms) (H : Held rooms s) where
  pub rule_held : (c : Clause) (literals : List ℤ) (ends : List ℕ) → HeldRules literals ends (next s (rule c))
      → Held (with_rules rooms literals ends) (next s (rule c))
  rule_held c literals ends K =
      record {
        rules = K;
        wishes = next_keeps s (rule c) (HeldWishes rooms.wishes rooms.wish_ends rooms.wish_weights)
            (record { clauses = H.wishes.clauses; weights_are = H.wishes.weights_are }) H.wishes;
        derived = next_keeps s (rule c) (HeldDerived rooms.derived rooms.derived_ends) H.derived H.derived;
        counters = next_keeps s (rule c) (HeldCounters rooms.inputs rooms.counter_ends) H.counters H.counters;
        weights = next_keeps s (rule c) (HeldWeights rooms.left rooms.outputs) H.weights H.weights;
      }

  pub wish_held : (w : ℕ) (c : Clause) (literals : List ℤ) (ends weights left : List ℕ) → HeldWishes literals ends weights (next s (wish w c))
      → HeldWeights left rooms.outputs (next s (wish w c))
      → Held (with_wishes rooms literals ends weights left) (next s (wish w c))
  wish_held w c literals ends weights left K G =
      record {
        rules = next_keeps s (wish w c) (HeldRules rooms.rules rooms.rule_ends) H.rules H.rules;
        wishes = K;
        derived = next_keeps s (wish w c) (HeldDerived rooms.derived rooms.derived_ends) H.derived H.derived;
        counters = next_keeps s (wish w c) (HeldCounters rooms.inputs rooms.counter_ends) H.counters H.counters;
        weights = G;
      }

  pub derive_held : (c : Clause) (hints : List Hint) (literals : List ℤ) (ends : List ℕ) → HeldDerived literals ends (next s (derive c hints))
      → Held (with_derived rooms literals ends) (next s (derive c hints))
  derive_held c hints literals ends K =
      record {
        rules = next_keeps s (derive c hints) (HeldRules rooms.rules rooms.rule_ends) H.rules H.rules;
        wishes = next_keeps s (derive c hints) (HeldWishes rooms.wishes rooms.wish_ends rooms.wish_weights)
            (record { clauses = H.wishes.clauses; weights_are = H.wishes.weights_are }) H.wishes;
        derived = K;
        counters = next_keeps s (derive c hints) (HeldCounters rooms.inputs rooms.counter_ends) H.counters H.counters;
        weights = next_keeps s (derive c hints) (HeldWeights rooms.left rooms.outputs) H.weights H.weights;
      }

  pub core_held : (d : ℕ) (inputs : List ℤ) (ends left outputs : List ℕ) → HeldCounters inputs ends (next s (core d))
      → HeldWeights left outputs (next s (core d))
      → Held (with_counters rooms inputs ends left outputs) (next s (core d))
  core_held d inputs ends left outputs K G =
      record {
        rules = next_keeps s (core d) (HeldRules rooms.rules rooms.rule_ends) H.rules H.rules;
        wishes = next_keeps s (core d) (HeldWishes rooms.wishes rooms.wish_ends rooms.wish_weights)
            (record { clauses = H.wishes.clauses; weights_are = H.wishes.weights_are }) H.wishes;
        derived = next_keeps s (core d) (HeldDerived rooms.derived rooms.derived_ends) H.derived H.derived;
        counters = K;
        weights = G;
      }
