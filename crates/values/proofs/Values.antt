-- Bytes and values: what a literal's byte says, rooms that represent an assignment, and an assignment that is taken back.
use mathlib.Core.Path.{◌≡◌, refl, ap, ◌∙◌}
use mathlib.Core.Bool.{Bool, true, false, not}
use mathlib.Core.List.{List, [], ◌∷◌}
use mathlib.Core.Logic.{◌≢◌}
use Prim.Native.Nat.{ℕ, zero, suc, ◌<◌}
use native.Mathlib.Omega.{arith}
use lib.Dec.{eqb}
use lib.IntN.{ℤ, pos, negsuc}
use lib.ListN.{length, get_or, set, replicate, length-set}
use lib.Seq.{get_or-set_same, get_or-set_other, set-set, set-get_or}
use borrow.Author.Tests.{eqb-true, eqb-false, ne_eqb}
use Rattle.paper.specs.Clauses.{variable, pick}
use Rattle.paper.specs.Derivation.{Value, unassigned, is, Assigned, assign, opposite, value_or, variable_value, literal_value}
use Rattle.variables.specs.Literals.{negative}
use Rattle.clauses.proofs.Lists.{clash, get_d_same}
use Rattle.values.specs.Values.{coded, code, literal_in, assigned_in, unassigned_in, Represents}

-- ── A literal and its variable's byte ──

pub assign_variable : (l : ℤ) (b : Bool) → (assign l b).variable ≡ variable l
assign_variable (pos v) b = refl
assign_variable (negsuc v) b = refl

pub byte_is : (l : ℤ) (b : Bool) → code (is (assign l b).value) ≡ pick (negative l) (code (is (not b))) (code (is b))
byte_is (pos v) b = refl
byte_is (negsuc v) b = refl

coded_code : (x : Value) → coded (code x) ≡ x
coded_code unassigned = refl
coded_code (is true) = refl
coded_code (is false) = refl

coded_set : (n : ℕ) → (n ≡ 0 → ⊥) → coded n ≡ is (eqb n 1)
coded_set zero h = absurd (h refl)
coded_set (suc zero) h = refl
coded_set (suc (suc n)) h = rw (ne_eqb (suc (suc n)) 1 (λ e. omega arith))

coded_open : (n : ℕ) → coded n ≡ unassigned → n ≡ 0
coded_open zero e = refl
coded_open (suc zero) e = clash (cc)
coded_open (suc (suc n)) e = clash (cc)

opposite_open : (x : Value) → opposite x ≡ unassigned → x ≡ unassigned
opposite_open unassigned e = refl
opposite_open (is b) e = clash (cc)

pub literal_open : (room : List ℕ) (l : ℤ) → get_or room (variable l) 0 ≡ 0 → literal_in room l ≡ unassigned
literal_open room (pos v) e = rw e
literal_open room (negsuc v) e = rw e

pub literal_set : (room : List ℕ) (l : ℤ) → (get_or room (variable l) 0 ≡ 0 → ⊥)
    → literal_in room l ≡ is (assign l (eqb (get_or room (variable l) 0) 1)).value
literal_set room (pos v) h = coded_set (get_or room v 0) h
literal_set room (negsuc v) h = rw (coded_set (get_or room (suc v) 0) h)

open_byte : (room : List ℕ) (l : ℤ) → literal_in room l ≡ unassigned → get_or room (variable l) 0 ≡ 0
open_byte room (pos v) e = coded_open (get_or room v 0) e
open_byte room (negsuc v) e = coded_open (get_or room (suc v) 0) (opposite_open (coded (get_or room (suc v) 0)) e)

-- What `value` answers, read back.
pub value_is : (x : Value) (n : ℕ) → n ≡ code x → x ≡ coded n
value_is x n e = rw (e, coded_code x)

pub value_open : (x : Value) (n : ℕ) → n ≡ code x → (n ≡ 1 → ⊥) → (n ≡ 2 → ⊥) → x ≡ unassigned
value_open unassigned n e h g = refl
value_open (is true) n e h g = absurd (h e)
value_open (is false) n e h g = absurd (g e)

-- The byte that is written for a false literal tells that it is false.
pub literal_false : (room : List ℕ) (l : ℤ) (n : ℕ) → n ≡ get_or room (variable l) 0 → n ≡ code (is (assign l false).value)
    → literal_in room l ≡ is false
literal_false room (pos v) n e f = rw (← e, f)
literal_false room (negsuc v) n e f = rw (← e, f)

-- ── An assignment taken back ──

-- What is set where it was 0 is as it was once it is 0 again.
pub set_back : (room : List ℕ) (v byte : ℕ) → get_or room v 0 ≡ 0 → set (set room v byte) v 0 ≡ room
set_back room v byte e = set-set room v byte 0 ∙ rw (← e) (set-get_or room v 0)

pub assigned_back : (room : List ℕ) (l : ℤ) (b : Bool) → literal_in room l ≡ unassigned
    → unassigned_in (assigned_in room (assign l b)) (variable l) ≡ room
assigned_back room l b e =
    rw (assign_variable l b) (set_back room (variable l) (code (is (assign l b).value)) (open_byte room l e))

-- ── Rooms that represent an assignment ──

pub represents_none : (size : ℕ) → Represents (replicate size 0) []
represents_none size v h = rw (get_d_same {A = ℕ} 0 size v)

pub represents_more : (room : List ℕ) (xs : List Assigned) (x : Assigned) → x.variable < length room → Represents room xs
    → Represents (assigned_in room x) (x ∷ xs)
represents_more room xs x h R v k = go (eqb v x.variable) refl
  where
    go : (b : Bool) → eqb v x.variable ≡ b → coded (get_or (assigned_in room x) v 0) ≡ value_or b x.value (variable_value xs v)
    go true e =
        let same : v ≡ x.variable = eqb-true v x.variable e in
        rw (same, get_or-set_same room x.variable (code (is x.value)) 0 h) (coded_code (is x.value))
    go false e =
        let other : v ≢ x.variable = eqb-false v x.variable e in
        rw (get_or-set_other room x.variable v (code (is x.value)) 0 other) (R v (rw (length-set room x.variable _) at k))

pub literal_represents : (room : List ℕ) (xs : List Assigned) → Represents room xs → (l : ℤ) → variable l < length room
    → literal_in room l ≡ literal_value xs l
literal_represents room xs R (pos v) h = R v h
literal_represents room xs R (negsuc v) h = ap opposite (R (suc v) h)
