-- A text begins with a word where its front of the same length is that word.
use mathlib.Core.Path.{◌≡◌, refl, ap}
use mathlib.Core.Bool.{◌&&◌}
use mathlib.Core.List.{List, [], ◌∷◌}
use Prim.Native.Nat.{ℕ}
use lib.Dec.{eqb}
use Rattle.std.specs.List.{starts_with}
use Rattle.paper.specs.Texts.{begins}

pub begins_so : (word bytes : List ℕ) → starts_with eqb bytes word ≡ begins word bytes
begins_so [] bytes = refl
begins_so (b ∷ word) [] = refl
begins_so (b ∷ word) (c ∷ bytes) = ap (λ same. eqb b c && same) (begins_so word bytes)
