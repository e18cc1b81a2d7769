-- What a caller keeps is kept by a record of each kind, by what the function of that kind says.
use mathlib.Core.Path.{◌≡◌, refl, sym, ◌∙◌, ap, ap₂, subst}
use mathlib.Core.Bool.{Bool, true, false}
use mathlib.Core.List.{List, ◌++◌}
use Prim.Native.Nat.{ℕ, ◌-◌, ◌/◌}
use lib.IntN.{ℤ}
use lib.ListN.{length, drop}
use Rattle.paper.specs.declared.Tally.{Tally}
use Rattle.paper.specs.declared.Outcome.{Outcome}
use Rattle.paper.specs.declared.Answer.{Answer}
use Rattle.paper.specs.declared.Answer.TheVariants.{Refused}
use Rattle.paper.specs.Clauses.{Clause, Truth, pick}
use Rattle.paper.specs.Session.{Session, Hint, tally_of}
use Rattle.paper.specs.Truth.{arranged}
use Rattle.paper.specs.Answers.{clear}
use Rattle.paper.specs.Steps.{opening, rule, wish, derive, core, judge, next}
use Rattle.paper.specs.Runs.{Reached}
use Rattle.paper.specs.Records.{Record, first, literals, hints, hints_at, step, record_refusals, record_answer, record_next, record_outcome}
use Rattle.paper.proofs.Reach.{next_reached}
use Rattle.rooms.specs.Held.{Rooms, Held, HeldRules, HeldWishes, HeldDerived, HeldCounters, HeldWeights, with_rules, with_wishes, with_derived, with_counters}
use Rattle.rooms.specs.Kept.{Kept}
use Rattle.records.proofs.Records.{Refuses}
use Rattle.rooms.proofs.Whole.{next_keeps, opening_held, rule_held, wish_held, derive_held, core_held}

-- ── The session after a record is the session before it, or the one after its step ──

reached_after : (s : Session) (r : Record) → Reached s → Reached (record_next s r)
reached_after s r h = go (clear (record_refusals s r))
  where
    go : (b : Bool) → Reached (pick b (next s (step r)) s)
    go true = next_reached s (step r) h
    go false = h

-- A judging changes nothing.
judge_after : (s : Session) (a : Truth) (b : Bool) → s ≡ pick b (next s (judge a)) s
judge_after s a true = next_keeps s (judge a) (λ (x : Session). s ≡ x) refl refl
judge_after s a false = refl

module _ (s : Session) (rooms : Rooms) (H : Held rooms s) (b : Bool) where
  opening_after : (n : ℕ) → Reached s → Held rooms (pick b (next s (opening n)) s)
  opening_after n r = go b
    where
      go : (b : Bool) → Held rooms (pick b (next s (opening n)) s)
      go true = opening_held s n rooms r H
      go false = H

  rule_after : (c : Clause) (literals : List ℤ) (ends : List ℕ) → HeldRules literals ends (pick b (next s (rule c)) s)
      → Held (with_rules rooms literals ends) (pick b (next s (rule c)) s)
  rule_after c literals ends = go b
    where
      go : (b : Bool) → HeldRules literals ends (pick b (next s (rule c)) s)
          → Held (with_rules rooms literals ends) (pick b (next s (rule c)) s)
      go true K = rule_held s rooms H c literals ends K
      go false K = record { rules = K; wishes = H.wishes; derived = H.derived; counters = H.counters; weights = H.weights }

  wish_after : (w : ℕ) (c : Clause) (literals : List ℤ) (ends weights left : List ℕ)
      → HeldWishes literals ends weights (pick b (next s (wish w c)) s) → HeldWeights left rooms.outputs (pick b (next s (wish w c)) s)
      → Held (with_wishes rooms literals ends weights left) (pick b (next s (wish w c)) s)
  wish_after w c literals ends weights left = go b
    where
      go : (b : Bool) → HeldWishes literals ends weights (pick b (next s (wish w c)) s)
          → HeldWeights left rooms.outputs (pick b (next s (wish w c)) s)
          → Held (with_wishes rooms literals ends weights left) (pick b (next s (wish w c)) s)
      go true K G = wish_held s rooms H w c literals ends weights left K G
      go false K G = record { rules = H.rules; wishes = K; derived = H.derived; counters = H.counters; weights = G }

  derive_after : (c : Clause) (hs : List Hint) (literals : List ℤ) (ends : List ℕ)
      → HeldDerived literals ends (pick b (next s (derive c hs)) s)
      → Held (with_derived rooms literals ends) (pick b (next s (derive c hs)) s)
  derive_after c hs literals ends = go b
    where
      go : (b : Bool) → HeldDerived literals ends (pick b (next s (derive c hs)) s)
          → Held (with_derived rooms literals ends) (pick b (next s (derive c hs)) s)
      go true K = derive_held s rooms H c hs literals ends K
      go false K = record { rules = H.rules; wishes = H.wishes; derived = K; counters = H.counters; weights = H.weights }

  core_after : (d : ℕ) (inputs : List ℤ) (ends left outputs : List ℕ) → HeldCounters inputs ends (pick b (next s (core d)) s)
      → HeldWeights left outputs (pick b (next s (core d)) s)
      → Held (with_counters rooms inputs ends left outputs) (pick b (next s (core d)) s)
  core_after d inputs ends left outputs = go b
    where
      go : (b : Bool) → HeldCounters inputs ends (pick b (next s (core d)) s) → HeldWeights left outputs (pick b (next s (core d)) s)
          → Held (with_counters rooms inputs ends left outputs) (pick b (next s (core d)) s)
      go true K G = core_held s rooms H d inputs ends left outputs K G
      go false K G = record { rules = H.rules; wishes = H.wishes; derived = H.derived; counters = K; weights = G }

-- ── One record ──

-- `o` is the outcome, and `low'` and `high'` are the work rooms after the call.
module _ (t : Tally) (rooms : Rooms) (low high : List ℕ) (s : Session) (k : Kept t rooms (low ++ high) s) (payload : List ℕ)
    (o : Outcome) (low' high' : List ℕ) (same : (low' ≡ low) × (high' ≡ high)) (kind : ℕ) where
  abbrev of_kind : ℕ → Record
  of_kind q = record { kind = q; payload = payload }

  abbrev Answered : ℕ → Rooms → Type 0
  Answered q rooms' = (o ≡ record_outcome s (of_kind q)) × Kept o.tally rooms' (low' ++ high') (record_next s (of_kind q))

  answered : (q : ℕ) → kind ≡ q → (rooms' : Rooms) → o ≡ record_outcome s (of_kind q) → Held rooms' (record_next s (of_kind q))
      → Answered kind rooms'
  answered q is rooms' e H = subst (λ (x : ℕ). Answered x rooms') (sym is) (
    e,
    record {
      reached = reached_after s (of_kind q) k.reached;
      counts = ap (λ (x : Outcome). x.tally) e;
      held = H;
      zeros = rw (ap₂ ◌++◌ same.0 same.1) k.zeros;
    },
  )

  pub refuses_answered : (number : ℕ) → Refuses s (of_kind kind) t number → o ≡ record { tally = t; answer = Refused number }
      → Answered kind rooms
  refuses_answered number l e = answered kind refl rooms (e ∙ l.out) (subst (Held rooms) l.same k.held)

  pub open_answered : kind ≡ 1 → o ≡ record_outcome s (of_kind 1) → Answered kind rooms
  open_answered is e =
      answered 1 is rooms e (opening_after s rooms k.held (clear (record_refusals s (of_kind 1))) (first payload) k.reached)

  pub judge_answered : kind ≡ 6 → (a : Answer) → o ≡ record { tally = t; answer = a } → a ≡ record_answer s (of_kind 6) → Answered kind rooms
  judge_answered is a e f =
      let stays = judge_after s (arranged payload) (clear (record_refusals s (of_kind 6))) in
      answered 6 is rooms (e ∙ (λ i. record { tally = (k.counts ∙ ap tally_of stays) i; answer = f i })) (subst (Held rooms) stays k.held)

  pub rule_answered : kind ≡ 2 → (lits : List ℤ) (ends : List ℕ)
      → (o ≡ record_outcome s (of_kind 2)) × HeldRules lits ends (record_next s (of_kind 2)) → Answered kind (with_rules rooms lits ends)
  rule_answered is lits ends h =
      answered 2 is _ h.0
      (rule_after s rooms k.held (clear (record_refusals s (of_kind 2))) (literals (length payload / 4) payload) lits ends h.1)

  pub wish_answered : kind ≡ 3 → (lits : List ℤ) (ends weights left : List ℕ)
      → (o ≡ record_outcome s (of_kind 3)) × HeldWishes lits ends weights (record_next s (of_kind 3))
      × HeldWeights left rooms.outputs (record_next s (of_kind 3)) → Answered kind (with_wishes rooms lits ends weights left)
  wish_answered is lits ends weights left h =
      answered 3 is _ h.0
      (wish_after s rooms k.held (clear (record_refusals s (of_kind 3))) (first payload) (literals (length payload / 4 - 1) (drop 4 payload))
      lits ends weights left h.1 h.2)

  pub derive_answered : kind ≡ 4 → (lits : List ℤ) (ends : List ℕ)
      → (o ≡ record_outcome s (of_kind 4)) × HeldDerived lits ends (record_next s (of_kind 4)) → Answered kind (with_derived rooms lits ends)
  derive_answered is lits ends h =
      answered 4 is _ h.0
      (derive_after s rooms k.held (clear (record_refusals s (of_kind 4))) (literals (first payload) (drop 4 payload))
      (hints ((length payload - hints_at payload) / 8) (drop (hints_at payload) payload)) lits ends h.1)

  pub core_answered : kind ≡ 5 → (inputs : List ℤ) (ends left outputs : List ℕ)
      → (o ≡ record_outcome s (of_kind 5)) × HeldCounters inputs ends (record_next s (of_kind 5))
      × HeldWeights left outputs (record_next s (of_kind 5)) → Answered kind (with_counters rooms inputs ends left outputs)
  core_answered is inputs ends left outputs h =
      answered 5 is _ h.0
      (core_after s rooms k.held (clear (record_refusals s (of_kind 5))) (first payload) inputs ends left outputs h.1 h.2)
