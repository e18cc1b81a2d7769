-- The bytes that were dropped and those that are left are as many as were asked for.
use Rattle.std.proofs.Common.{◌≡◌, ◌+◌, List, ℕ, length}
use Rattle.std.specs.Io.KnownBytes.{Consumes}
use Rattle.buffers.proofs.skip.Given as goal

abbrev pub invariant-loop-left : goal.invariant-loop-left
invariant-loop-left g l =
    (dropped : List ℕ)
    × Consumes (g.R.Read.remaining l.initial.source) (g.R.Read.remaining l.source) dropped
    × (length dropped + l.left ≡ l.count)

abbrev pub decreases-loop-left : goal.decreases-loop-left
decreases-loop-left g l = l.left
