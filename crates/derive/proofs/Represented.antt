-- A derivation over rooms is the paper's: where a room represents an assignment, and where rooms of zeros take a clause as false.
use mathlib.Core.Path.{◌≡◌, refl, ap, ◌∙◌}
use mathlib.Core.Bool.{Bool, true, false}
use mathlib.Core.List.{List, [], ◌∷◌}
use mathlib.Core.Logic.{◌≢◌}
use Prim.Native.Nat.{ℕ, suc, ◌<◌, ◌≤◌}
use native.Mathlib.Omega.{arith}
use lib.Dec.{eqb}
use lib.IntN.{ℤ, pos, negsuc}
use lib.ListN.{length, get_or, replicate, length-set, length-replicate}
use lib.Seq.{get_or-set_same, get_or-set_other}
use borrow.Author.Tests.{ltb-true, lt-ltb, eqb-true, eqb-false}
use Rattle.paper.specs.Sizes.{most_variables, numbers_end}
use Rattle.paper.specs.Clauses.{Clause, variable, every}
use Rattle.paper.specs.Session.{Session, named_literal, hint_in, hint_named, hint_clause}
use Rattle.paper.specs.Derivation.{Value, unassigned, is, Assigned, assign, value_or, variable_value}
use Rattle.paper.specs.Derivation.{ending, follow, misfit, assume, shows}
use Rattle.paper.specs.Runs.{Reached}
use Rattle.paper.specs.declared.Reading.{Reading}
use Rattle.paper.specs.declared.Reading.TheVariants.{AllFalse, Forces, AlreadyTrue, StillOpen}
use Rattle.paper.proofs.Bounds.{named_below}
use Rattle.paper.proofs.Costs.{reached_sound}
use Rattle.paper.proofs.Reach.{hint_below}
use Rattle.paper.proofs.Lists.{and_split, every-mono}
use Rattle.clauses.proofs.Lists.{get_d_same}
use Rattle.values.specs.Values.{coded, code, literal_in, assigned_in, Represents}
use Rattle.readings.specs.Readings.{read_in}
use Rattle.values.specs.Values.{placed}
use Rattle.values.proofs.Values.{assign_variable, represents_more}
use Rattle.readings.proofs.Readings.{read_represents, forced}
use Rattle.rooms.specs.Held.{Zeros}
use Rattle.derive.specs.Derivations.{misfit_in, false_in, assumed_in, hinted}

-- ── The hints ──

pub misfit_represents : (cs : List Clause) (room : List ℕ) (xs : List Assigned) (place : ℕ) → Represents room xs
    → every (every (placed (length room))) cs ≡ true → misfit_in room place cs ≡ misfit xs place cs
misfit_represents [] room xs place R e = refl
misfit_represents (c ∷ cs) room xs place R e =
    let parts = and_split (every (placed (length room)) c) (every (every (placed (length room))) cs) e in
    go (λ l h. misfit_represents cs (assigned_in room (assign l true)) (assign l true ∷ xs) (suc place)
    (represents_more room xs (assign l true) (rw (assign_variable l true) h) R) (rw length-set parts.1))
    parts.0 (read_in room c) refl
    ∙ ap (λ (r : Reading). follow r place (ending place cs) (λ l. misfit (assign l true ∷ xs) (suc place) cs))
    (read_represents room xs R c parts.0)
  where
    go : ((l : ℤ) → variable l < length room
        → misfit_in (assigned_in room (assign l true)) (suc place) cs ≡ misfit (assign l true ∷ xs) (suc place) cs)
        → every (placed (length room)) c ≡ true → (r : Reading) → read_in room c ≡ r
        → follow r place (ending place cs) (λ l. misfit_in (assigned_in room (assign l true)) (suc place) cs)
        ≡ follow r place (ending place cs) (λ l. misfit (assign l true ∷ xs) (suc place) cs)
    go later all AllFalse f = refl
    go later all (Forces l) f = later l (ltb-true (variable l) (length room) (forced room (placed (length room)) c l all f).0)
    go later all AlreadyTrue f = refl
    go later all StillOpen f = refl

-- ── The clause taken as false ──

-- What has a value keeps it.
abbrev or_else : Value → Value → Value
or_else unassigned other = other
or_else (is b) other = is b

coded_back : (b : Bool) → coded (code (is b)) ≡ is b
coded_back true = refl
coded_back false = refl

false_length : (room : List ℕ) (l : ℤ) (value : Value) → length (false_in room l value) ≡ length room
false_length room l unassigned = length-set room _ _
false_length room l (is b) = refl

assumed_length : (c : Clause) (room : List ℕ) → length (assumed_in room c) ≡ length room
assumed_length [] room = refl
assumed_length (l ∷ c) room = assumed_length c (false_in room l (literal_in room l)) ∙ false_length room l (literal_in room l)

false_by : (room : List ℕ) (l : ℤ) (value : Value) → coded (get_or room (variable l) 0) ≡ value
    → false_in room l (literal_in room l) ≡ false_in room l value
false_by room (pos v) value e = rw e
false_by room (negsuc v) unassigned e = rw e
false_by room (negsuc v) (is b) e = rw e

-- The first literal of a variable gives it its value, in the room and in the paper's list.
assumed_one : (room : List ℕ) (l : ℤ) (v : ℕ) (other : Value) → variable l < length room
    → or_else (coded (get_or (false_in room l (literal_in room l)) v 0)) other
    ≡ or_else (coded (get_or room v 0)) (value_or (eqb v (assign l false).variable) (assign l false).value other)
assumed_one room l v other h = rw (assign_variable l false) (go (coded (get_or room (variable l) 0)) refl (eqb v (variable l)) refl)
  where
    byte : ℕ
    byte = code (is (assign l false).value)

    go : (value : Value) → coded (get_or room (variable l) 0) ≡ value → (b : Bool) → eqb v (variable l) ≡ b
        → or_else (coded (get_or (false_in room l (literal_in room l)) v 0)) other
        ≡ or_else (coded (get_or room v 0)) (value_or b (assign l false).value other)
    go unassigned e true f =
        let same : v ≡ variable l = eqb-true v (variable l) f in
        rw (false_by room l unassigned e, assign_variable l false, same, get_or-set_same room (variable l) byte 0 h, e)
        (ap (λ (x : Value). or_else x other) (coded_back (assign l false).value))
    go unassigned e false f =
        let away : v ≢ variable l = eqb-false v (variable l) f in
        rw (false_by room l unassigned e, assign_variable l false, get_or-set_other room (variable l) v byte 0 away)
    go (is d) e true f = rw (false_by room l (is d) e, eqb-true v (variable l) f, e)
    go (is d) e false f = rw (false_by room l (is d) e)

assumed_at : (c : Clause) (room : List ℕ) (v : ℕ) → every (placed (length room)) c ≡ true
    → coded (get_or (assumed_in room c) v 0) ≡ or_else (coded (get_or room v 0)) (variable_value (assume c) v)
assumed_at [] room v e = last (coded (get_or room v 0))
  where
    last : (x : Value) → x ≡ or_else x unassigned
    last unassigned = refl
    last (is b) = refl
assumed_at (l ∷ c) room v e =
    let parts = and_split (placed (length room) l) (every (placed (length room)) c) e in
    let room' = false_in room l (literal_in room l) in
    assumed_at c room' v (rw (false_length room l (literal_in room l)) parts.1)
    ∙ assumed_one room l v (variable_value (assume c) v) (ltb-true (variable l) (length room) parts.0)

pub assumed_represents : (size : ℕ) (c : Clause) → every (placed size) c ≡ true
    → Represents (assumed_in (replicate size 0) c) (assume c)
assumed_represents size c e v h =
    assumed_at c (replicate size 0) v (rw (length-replicate {A = ℕ} size 0) e) ∙ rw (get_d_same {A = ℕ} 0 size v)

-- ── A session's hints over rooms of zeros ──

placed_more : (n size : ℕ) → n ≤ size → (l : ℤ) → placed n l ≡ true → placed size l ≡ true
placed_more n size h l e = lt-ltb (variable l) size (omega (arith, ltb-true (variable l) n e))

hints_placed : (s : Session) → Reached s → (size : ℕ) → numbers_end s.sheet.width ≤ size → (words : List ℕ)
    → every (λ word. hint_named s.sheet s.work (hint_in word)) words ≡ true
    → every (every (placed size)) (hinted s words) ≡ true
hints_placed s r size h [] e = refl
hints_placed s r size h (word ∷ words) e =
    let parts = and_split (hint_named s.sheet s.work (hint_in word)) _ e in
    let clause = hint_clause s.sheet s.work (hint_in word) in
    rw (
      every-mono (placed (numbers_end s.sheet.width)) (placed size) clause (placed_more (numbers_end s.sheet.width) size h)
          (hint_below s r (hint_in word) parts.0),
      hints_placed s r size h words parts.1,
    )

pub misfit_is : (s : Session) → Reached s → (room : List ℕ) → Zeros s.sheet.width room → (c : Clause)
    → every (named_literal s.sheet s.work) c ≡ true → (words : List ℕ)
    → every (λ word. hint_named s.sheet s.work (hint_in word)) words ≡ true
    → misfit_in (assumed_in room c) 1 (hinted s words) ≡ misfit (assume c) 1 (hinted s words)
misfit_is s r room zeros c named words all =
    let size = zeros.size in
    let sound = reached_sound s r in
    let few : length s.sheet.wishes ≤ most_variables = omega (arith, sound.few) in
    let clause-placed : every (placed size) c ≡ true
    = every-mono (named_literal s.sheet s.work) (placed size) c
    (λ l e. placed_more (numbers_end s.sheet.width) size zeros.enough l
    (named_below s.sheet s.work sound.fits sound.small few sound.few_counters sound.ordered l e)) named in
    let long : length (assumed_in (replicate size 0) c) ≡ size = assumed_length c (replicate size 0) ∙ length-replicate size 0 in
    rw zeros.are
    (misfit_represents (hinted s words) (assumed_in (replicate size 0) c) (assume c) 1 (assumed_represents size c clause-placed)
    (rw long (hints_placed s r size zeros.enough words all)))

-- An answer of 0 is what the paper calls shown.
pub shown : (c : Clause) (cs : List Clause) (answer : ℕ) → answer ≡ misfit (assume c) 1 cs → shows c cs ≡ eqb answer 0
shown c cs answer e = rw e
