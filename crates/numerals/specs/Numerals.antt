-- What a word of a text reads as.
use Rattle.std.specs.Prelude.{List, ℕ, ℤ, Option, Some, None}
use Rattle.paper.specs.Clauses.{pick}
use Rattle.paper.specs.Texts.{value, decimal_up_to, literal_word, literal_of}

-- Its value, where it is a decimal number that is not too large.
abbrev pub numeral_of : ℕ → List ℕ → Option ℕ
numeral_of most word = pick (decimal_up_to most word) (Some (value word)) None

-- A literal, or the 0 that ends a clause.
abbrev pub literal_in : List ℕ → Option ℤ
literal_in word = pick (literal_word word) (Some (literal_of word)) None
