-- The step that a well-formed rule, wish or derivation comes to, with as many literals and hints as were looked at.
use mathlib.Core.Path.{◌≡◌, refl, sym, ◌∙◌}
use mathlib.Core.Bool.{true, false, not}
use mathlib.Core.List.{List}
use Prim.Native.Nat.{ℕ, ◌-◌, ◌/◌, ◌%◌, ◌≤◌, min}
use native.Mathlib.Omega.{arith}
use lib.ListN.{length, take, drop}
use lib.Seq.{length-take-le}
use borrow.Author.Tests.{eq-eqb, le-leb}
use Rattle.paper.specs.Session.{Session}
use Rattle.paper.specs.Steps.{Step, rule, opened}
use Rattle.paper.specs.Runs.{Reached}
use Rattle.paper.specs.Records.{Record, first, literals, hints_at}
use Rattle.records.specs.Parts.{wish_in, derive_in}
use Rattle.records.proofs.Records.{Comes, well_formed}
use Rattle.records.proofs.Long.{Alike, alike_out, first_rule, first_wish_lem, first_derive}

-- A step that is answered as the record's own comes to the record too.
comes_alike : (s : Session) (r : Record) (m m' : Step) → Alike s m m' → Comes s r m' → Comes s r m
comes_alike s r m m' k h =
    record { answers = k.answers ∙ h.answers; out = alike_out s m m' k ∙ h.out; after = k.after ∙ h.after }

-- A part of a buffer is as long as it is said to be.
pub part_long : {A : Type 0} (room : List A) (count n : ℕ) → count ≡ min n (length room) → count ≡ length (take count room)
part_long room count n e = sym (length-take-le count room (omega (arith, e)))

abbrev of_kind : ℕ → List ℕ → Record
of_kind kind payload = record { kind = kind; payload = payload }

module _ (s : Session) (reached : Reached s) (payload : List ℕ)
    (begun : opened s ≡ true) where
  module _ (kind : ℕ) where
    timely : not (opened s) ≡ false
    timely = rw begun

  pub rule_comes : length payload % 4 ≡ 0 → (count : ℕ) → count ≡ min (length payload / 4) 65
      → Comes s (of_kind 2 payload) (rule (literals count payload))
  rule_comes h count e = rw e
      (comes_alike s (of_kind 2 payload) _ _ (first_rule s reached (length payload / 4) payload)
      (well_formed s (of_kind 2 payload) refl (timely 2) (eq-eqb (length payload % 4) 0 h)))

  pub wish_comes : 4 ≤ length payload → length payload % 4 ≡ 0 → (count : ℕ) → count ≡ min (length payload / 4 - 1) 65
      → Comes s (of_kind 3 payload) (wish_in count payload)
  wish_comes l h count e = rw e
      (comes_alike s (of_kind 3 payload) _ _ (first_wish_lem s reached (first payload) (length payload / 4 - 1) (drop 4 payload))
      (well_formed s (of_kind 3 payload) refl (timely 3) (rw (le-leb 4 (length payload) l, eq-eqb (length payload % 4) 0 h))))

  pub derive_comes : 4 ≤ length payload → hints_at payload ≤ length payload → (length payload - hints_at payload) % 8 ≡ 0
      → (count many : ℕ) → count ≡ min (first payload) 65 → many ≡ min ((length payload - hints_at payload) / 8) 257
      → Comes s (of_kind 4 payload) (derive_in count many (hints_at payload) payload)
  derive_comes l k h count many e f = rw (e, f)
      (comes_alike s (of_kind 4 payload) _ _
      (first_derive s reached (first payload) ((length payload - hints_at payload) / 8) (drop 4 payload) (drop (hints_at payload) payload))
      (well_formed s (of_kind 4 payload) refl (timely 4)
      (rw (le-leb 4 (length payload) l, le-leb (hints_at payload) (length payload) k, eq-eqb ((length payload - hints_at payload) % 8) 0 h))))
