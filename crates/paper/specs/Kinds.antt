-- The kinds of records by their numbers.
use Rattle.std.specs.Prelude.{◌≡◌, ◌<◌, ◌⊎◌, ℕ, Result, Ok, Err}
use Rattle.paper.specs.declared.Reason.{Reason}
use Rattle.paper.specs.declared.Reason.TheVariants.{UnknownKind}
use Rattle.paper.specs.declared.kind.Kind.{Kind}
use Rattle.paper.specs.declared.kind.Kind.TheVariants.{Open, Rule, Wish, Derive, Core, Judge}

abbrev pub kind_number : Kind → ℕ
kind_number Open = 1
kind_number Rule = 2
kind_number Wish = 3
kind_number Derive = 4
kind_number Core = 5
kind_number Judge = 6

-- A number is read as the kind that has it, and else as no kind.
abbrev pub Decodes : ℕ → Result Kind Reason → Type 0
Decodes number (Ok kind) = number ≡ kind_number kind
Decodes number (Err reason) = (reason ≡ UnknownKind) × ((number < 1) ⊎ (6 < number))
