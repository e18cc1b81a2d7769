-- The least weight of a clause's members, literal by literal and whole.
use mathlib.Core.Path.{◌≡◌, refl, sym, ap, ◌∙◌}
use mathlib.Core.Bool.{Bool, true, false, ◌&&◌, false≢true}
use mathlib.Core.List.{List, [], ◌∷◌, ◌++◌, map, map-append}
use Prim.Native.Nat.{ℕ, ◌+◌, ◌<◌, min}
use native.Mathlib.Numerals.{add-one}
use native.Mathlib.Omega.{arith}
use lib.Dec.{ltb}
use lib.IntN.{ℤ, pos}
use lib.ListN.{length, get_or, take, length-map}
use lib.Seq.{take-suc, length-take-le}
use borrow.Author.Tests.{lt-ltb, ltb-true, ne_eqb}
use Rattle.std.specs.Prelude.{Option, Some, None}
use Rattle.std.proofs.lemmas.Option.{none-some}
use Rattle.paper.specs.Clauses.{Clause, variable, positive, every, pick}
use Rattle.paper.specs.Session.{spread}
use Rattle.paper.specs.Steps.{least_from, least}
use Rattle.paper.proofs.Lists.{and_split, every-at, every-snoc}
use Rattle.weights.specs.Weights.{is_member, member_weight, least_member}

-- ── One literal ──

pub some_weight : (f : ℕ → ℕ) (l : ℤ) (w : ℕ) → member_weight f l ≡ Some w → (is_member f l ≡ true) × (w ≡ f (variable l))
some_weight f l w e = go (is_member f l) e
  where
    go : (b : Bool) → pick b (Some (f (variable l))) None ≡ Some w → (b ≡ true) × (w ≡ f (variable l))
    go true e = (refl, cc)
    go false e = absurd (none-some w e)

no_weight : (f : ℕ → ℕ) (l : ℤ) → member_weight f l ≡ None → is_member f l ≡ false
no_weight f l e = go (is_member f l) e
  where
    go : (b : Bool) → pick b (Some (f (variable l))) None ≡ None → b ≡ false
    go true e = absurd (none-some (f (variable l)) (sym e))
    go false e = refl

member_some : (f : ℕ → ℕ) (l : ℤ) → is_member f l ≡ true → 0 < f (variable l)
member_some f l e = ltb-true 0 (f (variable l)) (and_split (positive l) (ltb 0 (f (variable l))) e).1

-- ── One literal more ──

pub members_more : (c : Clause) (i : ℕ) → i < length c
    → map variable (take (i + 1) c) ≡ map variable (take i c) ++ (variable (get_or c i (pos 0)) ∷ [])
members_more c i h = rw (add-one i, take-suc c i (pos 0) h) (map-append variable (take i c) (get_or c i (pos 0) ∷ []))

pub every_more : (p : ℤ → Bool) (c : Clause) (i : ℕ) → i < length c → every p (take i c) ≡ true → p (get_or c i (pos 0)) ≡ true
    → every p (take (i + 1) c) ≡ true
every_more p c i h e q = rw (add-one i, take-suc c i (pos 0) h) (every-snoc p (take i c) (get_or c i (pos 0)) e q)

least_from_more : (f : ℕ → ℕ) (x : ℕ) (xs : List ℕ) (y : ℕ) → least_from f x (xs ++ (y ∷ [])) ≡ min (least_from f x xs) (f y)
least_from_more f x [] y = refl
least_from_more f x (z ∷ xs) y = let e = least_from_more f z xs y in omega arith

-- Of numbers: the first weight is the least so far; after that the lesser of two is.
numbers_more : (f : ℕ → ℕ) (xs : List ℕ) (y : ℕ)
    → (length xs ≡ 0 → least f (xs ++ (y ∷ [])) ≡ f y) × (0 < length xs → least f (xs ++ (y ∷ [])) ≡ min (least f xs) (f y))
numbers_more f [] y = (λ h. refl, λ h. absurd (omega arith))
numbers_more f (x ∷ xs) y = (λ h. absurd (omega arith), λ h. least_from_more f x xs y)

module _ (f : ℕ → ℕ) (c : Clause) (i : ℕ) (h : i < length c) where
  count : length (map variable (take i c)) ≡ i
  count = length-map (take i c) variable ∙ length-take-le i c (omega arith)

  pub first_least : i ≡ 0 → least f (map variable (take (i + 1) c)) ≡ f (variable (get_or c i (pos 0)))
  first_least e = rw (members_more c i h) ((numbers_more f (map variable (take i c)) (variable (get_or c i (pos 0)))).0 (count ∙ e))

  pub later_least : 0 < i
      → least f (map variable (take (i + 1) c)) ≡ min (least f (map variable (take i c))) (f (variable (get_or c i (pos 0))))
  later_least e =
      rw (members_more c i h) ((numbers_more f (map variable (take i c)) (variable (get_or c i (pos 0)))).1 (omega (arith, count)))

least_of_members : (f : ℕ → ℕ) (c : Clause) → 0 < length c → every (is_member f) c ≡ true
    → least_member f c ≡ Some (least f (map variable c))
least_of_members f c h e = rw (lt-ltb 0 (length c) h, e)

-- The first weight is the least so far; after that the lesser of two is.
abbrev pub lesser : ℕ → Option ℕ → ℕ
lesser w None = w
lesser w (Some least) = min least w

member_more : (f : ℕ → ℕ) (c : Clause) (l : ℤ) → every (is_member f) c ≡ true → is_member f l ≡ true
    → least_member f (c ++ (l ∷ [])) ≡ Some (lesser (f (variable l)) (least_member f c))
member_more f [] l e k = least_of_members f (l ∷ []) (omega arith) (rw k)
member_more f (x ∷ c) l e k =
    least_of_members f ((x ∷ c) ++ (l ∷ [])) (omega arith) (every-snoc (is_member f) (x ∷ c) l e k)
    ∙ ap (λ xs. Some (least f xs)) (map-append variable (x ∷ c) (l ∷ []))
    ∙ ap Some (least_from_more f (variable x) (map variable c) (variable l))
    ∙ sym (ap (λ r. Some (lesser (f (variable l)) r)) (least_of_members f (x ∷ c) (omega arith) e))

pub least_more : (f : ℕ → ℕ) (c : Clause) (i : ℕ) → i < length c → every (is_member f) (take i c) ≡ true
    → is_member f (get_or c i (pos 0)) ≡ true
    → least_member f (take (i + 1) c) ≡ Some (lesser (f (variable (get_or c i (pos 0)))) (least_member f (take i c)))
least_more f c i h e k = rw (add-one i, take-suc c i (pos 0) h) (member_more f (take i c) (get_or c i (pos 0)) e k)

-- ── The whole clause ──

-- One literal without weight is enough.
pub none_least : (f : ℕ → ℕ) (c : Clause) (i : ℕ) → i < length c → member_weight f (get_or c i (pos 0)) ≡ None → least_member f c ≡ None
none_least f c i h e = go (ltb 0 (length c)) (every (is_member f) c) refl
  where
    go : (a b : Bool) → every (is_member f) c ≡ b → pick (a && b) (Some (least f (map variable c))) None ≡ None
    go true true q = absurd (false≢true (sym (no_weight f (get_or c i (pos 0)) e) ∙ every-at (is_member f) (pos 0) c q i h))
    go true false q = refl
    go false b q = refl

least_from_some : (f : ℕ → ℕ) (l : ℤ) (c : Clause) → every (is_member f) (l ∷ c) ≡ true
    → 0 < least_from f (variable l) (map variable c)
least_from_some f l [] e = member_some f l (and_split (is_member f l) true e).0
least_from_some f l (k ∷ c) e =
    let s = and_split (is_member f l) (every (is_member f) (k ∷ c)) e in
    omega (arith, member_some f l s.0, least_from_some f k c s.1)

-- Members have a least weight that is not 0.
pub some_least : (f : ℕ → ℕ) (c : Clause) (w : ℕ) → least_member f c ≡ Some w → 0 < w
some_least f [] w e = absurd (none-some w e)
some_least f (l ∷ c) w e = go (ltb 0 (length (l ∷ c)) && every (is_member f) (l ∷ c)) refl e
  where
    go : (b : Bool) → (ltb 0 (length (l ∷ c)) && every (is_member f) (l ∷ c)) ≡ b
        → pick b (Some (least f (map variable (l ∷ c)))) None ≡ Some w → 0 < w
    go true k q =
        let same : w ≡ least f (map variable (l ∷ c)) = cc in
        rw same (least_from_some f l c (and_split (ltb 0 (length (l ∷ c))) (every (is_member f) (l ∷ c)) k).1)
    go false k q = absurd (none-some w q)

-- A variable without weight is no member, so nothing is spread to it.
pub spread_none : (f : ℕ → ℕ) (w v : ℕ) (c : Clause) → every (is_member f) c ≡ true → f v ≡ 0 → spread w (map variable c) v ≡ 0
spread_none f w v [] e z = refl
spread_none f w v (l ∷ c) e z =
    let s = and_split (is_member f l) (every (is_member f) c) e in
    rw (ne_eqb v (variable l) (λ q. omega (arith, ap f q, member_some f l s.0)), spread_none f w v c s.1 z)
