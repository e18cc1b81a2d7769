-- Reading a clause in parts, and reading it under a room that represents an assignment.
use mathlib.Core.Path.{◌≡◌, refl, sym, ap, ◌∙◌}
use mathlib.Core.Bool.{Bool, true, false}
use mathlib.Core.List.{List, [], ◌∷◌, ◌++◌}
use Prim.Native.Nat.{ℕ, suc, ◌+◌, ◌<◌, ◌≤◌}
use Rattle.std.specs.Prelude.{Option, Some, None}
use Rattle.std.specs.Option.{is_some}
use native.Mathlib.Numerals.{add-one}
use lib.IntN.{ℤ, pos}
use lib.ListN.{length, drop, get_or, drop_of_length-le}
use lib.Seq.{drop-cons}
use borrow.Author.Tests.{ltb-true}
use Rattle.paper.specs.Clauses.{Clause, variable, every}
use Rattle.paper.specs.Derivation.{Value, unassigned, is, Assigned, with_literal, read}
use Rattle.paper.specs.declared.Reading.{Reading}
use Rattle.paper.specs.declared.Reading.TheVariants.{AllFalse, Forces, AlreadyTrue, StillOpen}
use Rattle.paper.proofs.Lists.{and_split}
use Rattle.clauses.proofs.Lists.{clash, unlike}
use Rattle.values.specs.Values.{literal_in, Represents}
use Rattle.readings.specs.Readings.{read_in, both}
use Rattle.values.specs.Values.{placed}
use Rattle.values.proofs.Values.{literal_represents}

-- ── Two parts of a clause ──

pub both_none : (a : Reading) → both a AllFalse ≡ a
both_none AllFalse = refl
both_none (Forces l) = refl
both_none AlreadyTrue = refl
both_none StillOpen = refl

pub both_true : (a : Reading) → both a AlreadyTrue ≡ AlreadyTrue
both_true AllFalse = refl
both_true (Forces l) = refl
both_true AlreadyTrue = refl
both_true StillOpen = refl

pub both_assoc : (a b c : Reading) → both (both a b) c ≡ both a (both b c)
both_assoc AllFalse b c = refl
both_assoc AlreadyTrue b c = refl
both_assoc (Forces l) AllFalse c = refl
both_assoc (Forces l) AlreadyTrue c = refl
both_assoc (Forces l) (Forces k) AllFalse = refl
both_assoc (Forces l) (Forces k) (Forces m) = refl
both_assoc (Forces l) (Forces k) AlreadyTrue = refl
both_assoc (Forces l) (Forces k) StillOpen = refl
both_assoc (Forces l) StillOpen AllFalse = refl
both_assoc (Forces l) StillOpen (Forces m) = refl
both_assoc (Forces l) StillOpen AlreadyTrue = refl
both_assoc (Forces l) StillOpen StillOpen = refl
both_assoc StillOpen AllFalse c = refl
both_assoc StillOpen AlreadyTrue c = refl
both_assoc StillOpen (Forces k) AllFalse = refl
both_assoc StillOpen (Forces k) (Forces m) = refl
both_assoc StillOpen (Forces k) AlreadyTrue = refl
both_assoc StillOpen (Forces k) StillOpen = refl
both_assoc StillOpen StillOpen AllFalse = refl
both_assoc StillOpen StillOpen (Forces m) = refl
both_assoc StillOpen StillOpen AlreadyTrue = refl
both_assoc StillOpen StillOpen StillOpen = refl

-- A literal and a reading are two parts.
with_both : (l : ℤ) (x : Value) (r : Reading) → with_literal l x r ≡ both (with_literal l x AllFalse) r
with_both l unassigned r = refl
with_both l (is true) r = refl
with_both l (is false) r = refl

pub read-append : (room : List ℕ) (c d : Clause) → read_in room (c ++ d) ≡ both (read_in room c) (read_in room d)
read-append room [] d = refl
read-append room (l ∷ c) d =
    rw (read-append room c d, with_both l (literal_in room l) (both (read_in room c) (read_in room d)), ← both_assoc)
    (ap (λ (r : Reading). both r (read_in room d)) (sym (with_both l (literal_in room l) (read_in room c))))

-- ── A stretch, literal by literal ──

pub read_next : (room : List ℕ) (c : Clause) (i : ℕ) (r : Reading) → i < length c
    → both (both r (read_in room (get_or c i (pos 0) ∷ []))) (read_in room (drop (i + 1) c)) ≡ both r (read_in room (drop i c))
read_next room c i r h =
    let first = read-append room (get_or c i (pos 0) ∷ []) (drop (suc i) c) in
    rw (add-one, drop-cons c i (pos 0), both_assoc) (ap (both r) (sym first))

-- ── A stretch with at most one literal that is not false ──

pub false_next : (room : List ℕ) (c : Clause) (i : ℕ) → i < length c → literal_in room (get_or c i (pos 0)) ≡ is false
    → read_in room (drop i c) ≡ read_in room (drop (i + 1) c)
false_next room c i h e = rw (add-one, drop-cons c i (pos 0) h, e)

abbrev pub one_or_none : Option ℤ → Clause
one_or_none None = []
one_or_none (Some l) = l ∷ []

pub first_other : (room : List ℕ) (c : Clause) (i : ℕ) (other : Option ℤ) → false ≡ is_some other → i < length c
    → both (read_in room (one_or_none other)) (read_in room (drop i c)) ≡ read_in room c
    → both (read_in room (get_or c i (pos 0) ∷ [])) (read_in room (drop (i + 1) c)) ≡ read_in room c
first_other room c i None e h known = read_next room c i AllFalse h ∙ known
first_other room c i (Some l) e h known = unlike e

pub only_other : (room : List ℕ) (c : Clause) (i : ℕ) (other : Option ℤ) (l : ℤ) → other ≡ Some l → length c ≤ i
    → both (read_in room (one_or_none other)) (read_in room (drop i c)) ≡ read_in room c → read_in room (l ∷ []) ≡ read_in room c
only_other room c i other l e h known =
    sym (both_none (read_in room (l ∷ []))) ∙ rw (e, drop_of_length-le c h) at known

-- ── The paper's reading ──

pub read_represents : (room : List ℕ) (xs : List Assigned) → Represents room xs → (c : Clause)
    → every (placed (length room)) c ≡ true → read_in room c ≡ read xs c
read_represents room xs R [] e = refl
read_represents room xs R (l ∷ c) e =
    let parts = and_split (placed (length room) l) (every (placed (length room)) c) e in
    rw (literal_represents room xs R l (ltb-true (variable l) (length room) parts.0), read_represents room xs R c parts.1)

-- A literal that a clause forces is one of the clause's, and unassigned.
pub forced : (room : List ℕ) (p : ℤ → Bool) (c : Clause) (l : ℤ) → every p c ≡ true → read_in room c ≡ Forces l
    → (p l ≡ true) × (literal_in room l ≡ unassigned)
forced room p [] l e f = clash (cc)
forced room p (k ∷ c) l e f =
    let parts = and_split (p k) (every p c) e in
    go parts.0 (forced room p c l parts.1) (literal_in room k) refl (read_in room c) refl f
  where
    go : p k ≡ true → (read_in room c ≡ Forces l → (p l ≡ true) × (literal_in room l ≡ unassigned))
        → (x : Value) → literal_in room k ≡ x → (r : Reading) → read_in room c ≡ r → with_literal k x r ≡ Forces l
        → (p l ≡ true) × (literal_in room l ≡ unassigned)
    go h later unassigned g AllFalse d f = let same : k ≡ l = cc in (rw same at h, rw same at g)
    go h later unassigned g (Forces m) d f = clash (cc)
    go h later unassigned g AlreadyTrue d f = clash (cc)
    go h later unassigned g StillOpen d f = clash (cc)
    go h later (is true) g r d f = clash (cc)
    go h later (is false) g r d f = later (d ∙ f)
