-- A choice that is there where a test holds; std's `cond_some` is the other half.
use mathlib.Core.Path.{◌≡◌, refl}
use mathlib.Core.Bool.{Bool, true, false}
use Rattle.std.specs.Prelude.{Some, None}
use Rattle.std.proofs.lemmas.Option.{none-some}
use Rattle.paper.specs.Clauses.{pick}

pub none_picked : {A : Type 0} (b : Bool) (x : A) → None ≡ pick b (Some x) None → b ≡ false
none_picked true x e = absurd (none-some x e)
none_picked false x e = refl
