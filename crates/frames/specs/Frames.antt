-- What stands from a place of a block on, besides what the paper says of it.
use Rattle.std.specs.Prelude.{Bool, true, false, ◌&&◌, List, ℕ, ltb, length}
use Rattle.paper.specs.Inputs.{front, onFront}

-- The run ends at bytes with no whole record at their front: at a length that no record has, and where nothing follows but some
-- bytes are left.
abbrev pub stops : Bool → List ℕ → Bool
stops last bytes = onFront (front bytes) (last && ltb 0 (length bytes)) true (λ n. false)
