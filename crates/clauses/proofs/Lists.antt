-- Laws of booleans and lists that know nothing of clauses.
use mathlib.Core.Path.{◌≡◌, refl}
use mathlib.Core.Bool.{Bool, true, false}
use mathlib.Core.List.{List, [], ◌∷◌, ◌++◌}
use Prim.Native.Nat.{ℕ, zero, suc, ◌+◌, ◌-◌, ◌<◌, ◌≤◌}
use native.Mathlib.Numerals.{add-one}
use native.Mathlib.Omega.{arith}
use lib.ListN.{length, drop, replicate, get_or, set}
use lib.Seq.{paste, paste-suc}

-- What nothing can be: `clash (cc)` closes a case whose facts contradict each other.
pub clash : {A : Type 0} → ◌≡◌ {A = ℕ} 0 1 → A
clash e = absurd (omega arith)

pub unlike : {A : Type 0} → ◌≡◌ {A = Bool} false true → A
unlike e = clash (cc)

pub drop-replicate : {A : Type 0} (a : A) (n m : ℕ) → drop m (replicate n a) ≡ replicate (n - m) a
drop-replicate a n zero = let e : n - 0 ≡ n = omega arith in rw e
drop-replicate a zero (suc m) = let e : 0 - suc m ≡ 0 = omega arith in rw e
drop-replicate a (suc n) (suc m) = let e : suc n - suc m ≡ n - m = omega arith in rw e (drop-replicate a n m)

-- A list of one thing reads so at every place, if that is the default too.
pub get_d_same : {A : Type 0} (a : A) (n i : ℕ) → get_or (replicate n a) i a ≡ a
get_d_same a zero i = refl
get_d_same a (suc n) zero = refl
get_d_same a (suc n) (suc i) = get_d_same a n i

-- A turn of a copy: one element more is pasted.
pub paste_more : {A : Type 0} (room : List A) (start : ℕ) (xs : List A) (i : ℕ) (d : A)
    → start + length xs ≤ length room → i < length xs → {now : List A} {x : A} → now ≡ paste room start xs i → x ≡ get_or xs i d
    → set now (start + i) x ≡ paste room start xs (i + 1)
paste_more room start xs i d h g e f =
    let k : start + i < length room = omega arith in
    rw (e, f, add-one) (paste-suc room start xs i d k g)

pub set_right : {A : Type 0} (xs ys : List A) (i : ℕ) (a : A) → length xs ≤ i
    → set (xs ++ ys) i a ≡ xs ++ set ys (i - length xs) a
set_right [] ys i a h = let e : i - 0 ≡ i = omega arith in rw e
set_right (x ∷ xs) ys zero a h = absurd (omega arith)
set_right (x ∷ xs) ys (suc i) a h =
    let e : suc i - suc (length xs) ≡ i - length xs = omega arith in
    rw (e, set_right xs ys i a (omega arith))

-- Two lists end to end tell each of them where its length is known.
pub append_parts : {A : Type 0} (xs ys xs' ys' : List A) → length xs ≡ length xs' → xs ++ ys ≡ xs' ++ ys'
    → (xs ≡ xs') × (ys ≡ ys')
append_parts [] ys [] ys' h e = (refl, e)
append_parts [] ys (x' ∷ xs') ys' h e = absurd (omega arith)
append_parts (x ∷ xs) ys [] ys' h e = absurd (omega arith)
append_parts (x ∷ xs) ys (x' ∷ xs') ys' h e =
    let first : x ≡ x' = cc in
    let after : xs ++ ys ≡ xs' ++ ys' = cc in
    let rest = append_parts xs ys xs' ys' (omega arith) after in
    (cc rest.0, rest.1)
