-- A record's step with so many of its literals and hints.
use Rattle.std.specs.Prelude.{List, ℕ, drop}
use Rattle.paper.specs.Steps.{Step, wish, derive}
use Rattle.paper.specs.Records.{first, literals, hints}

abbrev pub wish_in : ℕ → List ℕ → Step
wish_in count payload = wish (first payload) (literals count (drop 4 payload))

abbrev pub derive_in : ℕ → ℕ → ℕ → List ℕ → Step
derive_in count many start payload = derive (literals count (drop 4 payload)) (hints many (drop start payload))
