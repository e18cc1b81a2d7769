-- A table of refusals whose lines answer with their numbers alone.
use Rattle.std.specs.Prelude.{◌≡◌, List, [], ◌∷◌, ◌<◌}
use Rattle.paper.specs.Answers.{Refusal}
use Rattle.paper.specs.declared.Answer.TheVariants.{Refused}
pub use Rattle.paper.specs.Answers.{number_of, lowest}

-- Each line answers with its number alone, which is not 0.
abbrev pub Plain : List Refusal → Type 0
Plain [] = Unit
Plain (line ∷ table) = (line.answer ≡ Refused (number_of line)) × (0 < number_of line) × Plain table
