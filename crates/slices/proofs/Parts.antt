-- A part that lies within the list.
use mathlib.Core.Path.{◌≡◌}
use mathlib.Core.List.{List}
use Prim.Native.Nat.{ℕ, ◌-◌, ◌≤◌}
use lib.ListN.{length, take, drop}
use borrow.Author.Tests.{le-leb}
use Rattle.slices.specs.Slices.{part_of}

pub part_is : {A : Type 0} (list : List A) (start end : ℕ) → start ≤ end → end ≤ length list
    → part_of list start end ≡ take (end - start) (drop start list)
part_is list start end up fits = rw (le-leb start end up, le-leb end (length list) fits)
