-- The sign of a literal; the paper has its variable.
use Rattle.std.specs.Prelude.{Bool, true, false, ℤ, pos, negsuc}

abbrev pub negative : ℤ → Bool
negative (pos v) = false
negative (negsuc v) = true
