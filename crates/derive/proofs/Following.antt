-- One hint more and one literal more, place by place.
use mathlib.Core.Path.{◌≡◌, refl, sym, ap, ◌∙◌}
use mathlib.Core.Bool.{Bool, true, false}
use Rattle.std.specs.Prelude.{Option, Some, None}
use Rattle.std.specs.Option.{is_some}
use mathlib.Core.List.{List, map}
use Prim.Native.Nat.{ℕ, suc, ◌+◌, ◌<◌}
use native.Mathlib.Numerals.{add-one}
use native.Mathlib.Omega.{arith}
use lib.IntN.{ℤ, pos}
use lib.ListN.{length, drop, get_or}
use lib.Seq.{drop-cons}
use Rattle.paper.specs.Clauses.{Clause}
use Rattle.paper.specs.Derivation.{Value, unassigned, assign, ending, follow}
use Rattle.paper.specs.declared.Reading.{Reading}
use Rattle.paper.specs.declared.Reading.TheVariants.{AllFalse, Forces}
use Rattle.values.specs.Values.{literal_in, assigned_in}
use Rattle.values.specs.Lent.{known}
use Rattle.clauses.proofs.Lists.{unlike}
use Rattle.readings.specs.Readings.{read_in}
use Rattle.derive.specs.Derivations.{misfit_in, false_in, assumed_in}

-- ── Hints, with the clause of each ──

module _ (clause_of : ℕ → Clause) (words : List ℕ) (i : ℕ) where
  abbrev later : List Clause
  later = map clause_of (drop (i + 1) words)

  module _ (room : List ℕ) (h : i < length words) (r : Reading) (read : r ≡ read_in room (clause_of (get_or words i 0))) where
    pub follow_by : (found : Reading) → r ≡ found
        → misfit_in room (i + 1) (map clause_of (drop i words))
        ≡ follow found (i + 1) (ending (i + 1) later) (λ l. misfit_in (assigned_in room (assign l true)) (suc (i + 1)) later)
    follow_by found e = rw (add-one, drop-cons words i 0, ← read, e)

    pub follow_forces : (l : ℤ) → r ≡ Forces l
        → misfit_in (assigned_in room (assign l true)) (i + 1 + 1) later ≡ misfit_in room (i + 1) (map clause_of (drop i words))
    follow_forces l e = rw (add-one (i + 1)) (sym (follow_by (Forces l) e))

    pub follow_early : r ≡ AllFalse → (i + 1 ≡ length words → ⊥) → i + 1 ≡ misfit_in room (i + 1) (map clause_of (drop i words))
    follow_early e more = sym (follow_by AllFalse e ∙ rw (drop-cons words (i + 1) 0 (omega arith)))

-- ── The clause's literals ──

module _ (room : List ℕ) (c : Clause) (j : ℕ) where
  pub assumed_more : (value : Value) → literal_in room (get_or c j (pos 0)) ≡ value → j < length c
      → assumed_in room (drop j c) ≡ assumed_in (false_in room (get_or c j (pos 0)) value) (drop (j + 1) c)
  assumed_more value e h =
      rw (drop-cons c j (pos 0), add-one)
      (ap (λ (x : Value). assumed_in (false_in room (get_or c j (pos 0)) x) (drop (suc j) c)) e)

pub known_none : (found : Option Bool) → is_some found ≡ false → known found ≡ unassigned
known_none None e = refl
known_none (Some b) e = unlike (sym e)

pub false_kept : (room : List ℕ) (l : ℤ) (found : Option Bool) → is_some found ≡ true → false_in room l (known found) ≡ room
false_kept room l None e = unlike e
false_kept room l (Some b) e = refl
