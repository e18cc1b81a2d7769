-- Facts about tests and lists that the proofs of this crate share.
use mathlib.Core.Path.{◌≡◌, refl, ap}
use mathlib.Core.Bool.{Bool, true, false, not, ◌||◌, ◌&&◌, true≢false, false≢true}
use mathlib.Core.List.{List, [], ◌∷◌, ◌++◌}
use Prim.Native.Nat.{ℕ, zero, suc, ◌+◌, ◌-◌, ◌<◌, ◌≤◌}
use native.Mathlib.Omega.{arith}
use lib.ListN.{length, get_or}
use lib.Seq.{get_or-append-add}
use Rattle.paper.specs.Clauses.{every, from}

-- ── Tests ──

pub and_split : (a b : Bool) → (a && b) ≡ true → (a ≡ true) × (b ≡ true)
and_split true b e = (refl, e)
and_split false b e = absurd (false≢true e)

pub and_both : (a b : Bool) → a ≡ true → b ≡ true → (a && b) ≡ true
and_both a b p q = rw p q

pub or_split : (a b : Bool) → (a || b) ≡ false → (a ≡ false) × (b ≡ false)
or_split true b e = absurd (true≢false e)
or_split false b e = (refl, e)

pub or_mono : (a b c d : Bool) → (a ≡ true → c ≡ true) → (b ≡ true → d ≡ true) → (a || b) ≡ true → (c || d) ≡ true
or_mono true b c d f g e = rw (f refl)
or_mono false b true d f g e = refl
or_mono false b false d f g e = g e

-- A line of a table that does not apply, in front of the rest.
pub passed : (b rest : Bool) → (not b && rest) ≡ true → (b ≡ false) × (rest ≡ true)
passed true rest e = absurd (false≢true e)
passed false rest e = (refl, e)

-- ── A test at every element ──

pub every-mono {ℓ} : {A : Type ℓ} (p q : A → Bool) (xs : List A) → ((x : A) → p x ≡ true → q x ≡ true) → every p xs ≡ true → every q xs ≡ true
every-mono p q [] f e = refl
every-mono p q (x ∷ xs) f e = let s = and_split (p x) (every p xs) e in and_both _ _ (f x s.0) (every-mono p q xs f s.1)

pub every-snoc {ℓ} : {A : Type ℓ} (p : A → Bool) (xs : List A) (y : A) → every p xs ≡ true → p y ≡ true → every p (xs ++ (y ∷ [])) ≡ true
every-snoc p [] y e f = and_both _ _ f refl
every-snoc p (x ∷ xs) y e f = let s = and_split (p x) (every p xs) e in and_both _ _ s.0 (every-snoc p xs y s.1 f)

pub every-before {ℓ} : {A : Type ℓ} (p : A → Bool) (xs ys : List A) → every p (xs ++ ys) ≡ true → every p xs ≡ true
every-before p [] ys e = refl
every-before p (x ∷ xs) ys e = let s = and_split (p x) (every p (xs ++ ys)) e in and_both _ _ s.0 (every-before p xs ys s.1)

pub every-at {ℓ} : {A : Type ℓ} (p : A → Bool) (d : A) (xs : List A) → every p xs ≡ true → (i : ℕ) → i < length xs → p (get_or xs i d) ≡ true
every-at p d [] e i h = absurd (omega arith)
every-at p d (x ∷ xs) e zero h = (and_split (p x) (every p xs) e).0
every-at p d (x ∷ xs) e (suc i) h = every-at p d xs (and_split (p x) (every p xs) e).1 i (omega arith)

-- ── A property of every number of a list ──

abbrev pub All : (ℕ → Type 0) → List ℕ → Type 0
All P [] = Unit {0}
All P (x ∷ xs) = P x × All P xs

pub all_mono : (P Q : ℕ → Type 0) → ((x : ℕ) → P x → Q x) → (xs : List ℕ) → All P xs → All Q xs
all_mono P Q f [] a = tt
all_mono P Q f (x ∷ xs) a = (f x a.0, all_mono P Q f xs a.1)

pub all_split : (P : ℕ → Type 0) (xs ys : List ℕ) → All P (xs ++ ys) → All P xs × All P ys
all_split P [] ys a = (tt, a)
all_split P (x ∷ xs) ys a = let r = all_split P xs ys a.1 in ((a.0, r.0), r.1)

pub all_from : (n a m : ℕ) → a + m ≤ n → All (λ x. x < n) (from a m)
all_from n a zero h = tt
all_from n a (suc m) h = (omega arith, all_from n (suc a) m (omega arith))

pub length_from : (a n : ℕ) → length (from a n) ≡ n
length_from a zero = refl
length_from a (suc n) = ap suc (length_from (suc a) n)

-- ── Elements by number ──

pub getD-right {ℓ} : {A : Type ℓ} (xs ys : List A) (i : ℕ) (d : A) → length xs ≤ i → get_or (xs ++ ys) i d ≡ get_or ys (i - length xs) d
getD-right xs ys i d h =
    let e : length xs + (i - length xs) ≡ i = omega arith in
    rw e at (get_or-append-add xs ys (i - length xs) d)
