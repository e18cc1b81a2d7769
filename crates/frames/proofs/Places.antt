-- A place in some bytes, and the bytes from there on.
use mathlib.Core.Path.{◌≡◌}
use mathlib.Core.List.{List}
use Prim.Native.Nat.{ℕ, ◌+◌, ◌≤◌}
use native.Mathlib.Omega.{arith}
use lib.ListN.{length, drop, length-drop}
use Rattle.paper.specs.Inputs.{front}
use Rattle.paper.specs.declared.Front.TheVariants.{Whole}
use Rattle.paper.proofs.Inputs.{stands}

-- Where a whole record stands, the place behind it is in the block too: a sum that leads there does not wrap.
pub within : (bytes : List ℕ) (at n : ℕ) → front (drop at bytes) ≡ Whole n → at + 4 + n ≤ length bytes
within bytes at n e =
    let w = stands (drop at bytes) n e in
    omega (arith, w.long, length-drop at bytes)
