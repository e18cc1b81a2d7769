-- A number in bytes is made of the numbers in its parts; bytes that are missing count as zeros.
use mathlib.Core.Path.{◌≡◌}
use mathlib.Core.List.{List, [], ◌∷◌}
use Prim.Native.Nat.{ℕ, zero, suc, ◌+◌, ◌*◌, ◌^◌}
use native.Mathlib.Nat.{pow-succ', mul_assoc, mul-zero, suc-add}
use native.Mathlib.Omega.{arith}
use lib.ListN.{take, drop}
use lib.Seq.{take-nil, drop-drop}
use Rattle.paper.specs.Records.{number}

-- Where the first part is cut short, the second is 0.
parts : (m n : ℕ) (bytes : List ℕ)
    → number (take (m + n) bytes) ≡ number (take m bytes) + 256 ^ m * number (take n (drop m bytes))
parts zero n bytes = let e : 0 + n ≡ n = omega arith in rw e (omega arith)
parts (suc m) n [] = rw (suc-add m n, take-nil, mul-zero)
parts (suc m) n (b ∷ bytes) =
    rw (suc-add m n, pow-succ', mul_assoc) (omega (arith, parts m n bytes))

pub joined : (m n at : ℕ) (bytes : List ℕ)
    → number (take (m + n) (drop at bytes))
    ≡ number (take m (drop at bytes)) + 256 ^ m * number (take n (drop (at + m) bytes))
joined m n at bytes = rw (← drop-drop m at bytes) (parts m n (drop at bytes))
