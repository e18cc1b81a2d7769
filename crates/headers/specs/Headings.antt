-- What the header of an older text reads as, and what the words of its line do.
use Rattle.std.specs.Prelude.{◌≡◌, Bool, true, false, ◌&&◌, List, [], ◌∷◌, ℕ, ◌+◌, ◌-◌, eqb, length, take, drop, get_or, Option, Some, None}
use Rattle.paper.specs.declared.Header.{Header}
use Rattle.paper.specs.Clauses.{every, pick}
use Rattle.paper.specs.Texts.{Word, value, decimal_up_to, most_number, header_at, header_line, header_form, header_word, header_of}
use Rattle.words.specs.Words.{words_at}
use Rattle.headers.specs.declared.Heading.{Heading}
use Rattle.headers.specs.declared.Number.{Number}
use Rattle.headers.specs.declared.Three.{Three}

-- ── The next number ──

unfoldable pub is_number : Word → Bool
is_number w = decimal_up_to most_number w.bytes

-- There is a first word, and it is a number.
abbrev pub number_first : List Word → Bool
number_first [] = false
number_first (w ∷ ws) = is_number w

abbrev pub word_of : List ℕ → Number → Word
word_of line n = record { at = n.start; bytes = take (n.end - n.start) (drop n.start line) }

-- The first of the words from `at` on is this number, and behind it the others go on.
pub record Leads (line : List ℕ) (at : ℕ) (n : Number) : Type 0 where
  pub number : is_number (word_of line n) ≡ true
  pub value : n.value ≡ value (word_of line n).bytes
  pub words : words_at line at ≡ word_of line n ∷ words_at line n.end

abbrev pub NumberAt : List ℕ → ℕ → Option Number → Type 0
NumberAt line at None = number_first (words_at line at) ≡ false
NumberAt line at (Some n) = Leads line at n

-- ── Three numbers ──

-- The end of the paper's form of a header.
abbrev pub three_form : List Word → Bool
three_form ws = eqb (length ws) 3 && every is_number ws

abbrev pub word_in : List Word → ℕ → Word
word_in ws i = get_or ws i (record { at = 0; bytes = [] })

abbrev pub header_in : List Word → Header
header_in ws = record { variables = value (word_in ws 0).bytes; clauses = value (word_in ws 1).bytes; top = value (word_in ws 2).bytes }

abbrev pub three_of : List Word → Option Three
three_of ws = pick (three_form ws) (Some (record { header = header_in ws; at = (word_in ws 0).at })) None

-- ── The header ──

-- The clauses begin behind the line's LF, or one past the text's end where the LF is missing.
abbrev pub heading : List ℕ → Heading
heading text =
    record { header = header_of text; at = (header_word text 0).at; end = header_at text + 7 + length (header_line text) }

-- Where the header has its form.
abbrev pub heading_of : List ℕ → Option Heading
heading_of text = pick (header_form text) (Some (heading text)) None
