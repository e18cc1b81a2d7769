-- The weight that wishes and counters give, by the number of the variable.
use mathlib.Core.Path.{◌≡◌, refl}
use mathlib.Core.List.{List, [], ◌∷◌, ◌++◌}
use Prim.Native.Nat.{ℕ, zero, suc, ◌+◌, ◌*◌, ◌<◌, ◌≤◌}
use native.Mathlib.Omega.{arith}
use native.Mathlib.Nat.{add-zero, suc-add, add-suc}
use lib.ListN.{length}
use borrow.Author.Tests.{ne_eqb}
use Rattle.paper.specs.declared.Width.{Width}
use Rattle.paper.specs.Clauses.{from}
use Rattle.paper.specs.Session.{Wish, Counter, wish_gives, spread, upper_outputs, counter_gives}
use Rattle.paper.proofs.Lists.{All, all_from}
use Rattle.paper.proofs.Trees.{Fits}
use Rattle.paper.proofs.Truths.{Ordered}

-- ── Wishes ──

pub wishes_below : (xs : List Wish) (v₀ v : ℕ) → v < v₀ → wish_gives xs v₀ v ≡ 0
wishes_below [] v₀ v h = refl
wishes_below (x ∷ xs) v₀ v h = rw (ne_eqb v v₀ (λ e. omega arith), wishes_below xs (suc v₀) v (omega arith))

pub wishes_above : (xs : List Wish) (v₀ v : ℕ) → v₀ + length xs ≤ v → wish_gives xs v₀ v ≡ 0
wishes_above [] v₀ v h = refl
wishes_above (x ∷ xs) v₀ v h = rw (ne_eqb v v₀ (λ e. omega arith), wishes_above xs (suc v₀) v (omega arith))

pub wishes-append : (xs ys : List Wish) (v₀ v : ℕ) → wish_gives (xs ++ ys) v₀ v ≡ wish_gives xs v₀ v + wish_gives ys (v₀ + length xs) v
wishes-append [] ys v₀ v = rw (add-zero v₀) (omega arith)
wishes-append (x ∷ xs) ys v₀ v = rw (wishes-append xs ys (suc v₀) v, suc-add v₀ (length xs), ← (add-suc v₀ (length xs))) (omega arith)

-- ── Counters ──

spread_below : (w a n v : ℕ) → v < a → spread w (from a n) v ≡ 0
spread_below w a zero v h = refl
spread_below w a (suc n) v h = rw (ne_eqb v a (λ e. omega arith), spread_below w (suc a) n v (omega arith))

spread_above : (w a n v : ℕ) → a + n ≤ v → spread w (from a n) v ≡ 0
spread_above w a zero v h = refl
spread_above w a (suc n) v h = rw (ne_eqb v a (λ e. omega arith), spread_above w (suc a) n v (omega arith))

upper_below : (w start m v : ℕ) → v ≤ start → spread w (upper_outputs start m) v ≡ 0
upper_below w start zero v h = refl
upper_below w start (suc m) v h = spread_below w (suc start) m v (omega arith)

upper_above : (w start m v : ℕ) → start + m ≤ v → spread w (upper_outputs start m) v ≡ 0
upper_above w start zero v h = refl
upper_above w start (suc m) v h = spread_above w (suc start) m v (omega arith)

pub counters_below : (stride : ℕ) (xs : List Counter) (start v : ℕ) → v ≤ start → counter_gives stride xs start v ≡ 0
counters_below stride [] start v h = refl
counters_below stride (x ∷ xs) start v h =
    rw (upper_below x.weight start (length x.inputs) v h, counters_below stride xs (start + stride) v (omega arith))

pub counters_above : (u : Width) → Fits u → (xs : List Counter) (start v : ℕ) → Ordered u start xs → start + u.stride * length xs ≤ v
    → counter_gives u.stride xs start v ≡ 0
counters_above u ft [] start v o h = refl
counters_above u ft (x ∷ xs) start v o h =
    let l = o.1 in
    let g = ft.slim in
    rw (upper_above x.weight start (length x.inputs) v (omega arith), counters_above u ft xs (start + u.stride) v o.4 (omega arith))

pub counters_snoc : (stride : ℕ) (xs : List Counter) (x : Counter) (start v : ℕ)
    → counter_gives stride (xs ++ (x ∷ [])) start v
    ≡ counter_gives stride xs start v + spread x.weight (upper_outputs (start + stride * length xs) (length x.inputs)) v
counters_snoc stride [] x start v = rw (none start stride) (omega arith)
  where
    none : (b k : ℕ) → b + k * 0 ≡ b
    none b k = omega arith
counters_snoc stride (y ∷ xs) x start v = rw (counters_snoc stride xs x (start + stride) v, shift start (length xs)) (omega arith)
  where
    shift : (b n : ℕ) → b + stride + stride * n ≡ b + stride * suc n
    shift b n = omega arith

pub all_upper : (n start m : ℕ) → start + m ≤ n → All (λ x. x < n) (upper_outputs start m)
all_upper n start zero h = tt
all_upper n start (suc m) h = all_from n (suc start) m (omega arith)
