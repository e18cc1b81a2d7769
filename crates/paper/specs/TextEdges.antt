-- Edge texts of the older form, with the answers that the description gives them.
use Rattle.std.specs.Prelude.{List, [], ◌∷◌, map, ℕ}
use Rattle.paper.specs.declared.TextAnswer.{TextAnswer}
use Rattle.paper.specs.Texts.{text_answer}

pub record Edge : Type 0 where
  pub text : List ℕ
  pub room : ℕ
  pub answer : TextAnswer

abbrev pub edge : List ℕ → ℕ → ℕ → ℕ → ℕ → Edge
edge text room number position length = record { text = text; room = room; answer = record { number = number; position = position; length = length } }

abbrev pub edges : List Edge
edges =
    -- an empty text
    edge ([]) 64 30 0 0
    -- a comment and nothing else
    ∷ edge (99 ∷ 10 ∷ []) 64 30 0 0
    -- a header without a line end
    ∷ edge (112 ∷ 32 ∷ 119 ∷ 99 ∷ 110 ∷ 102 ∷ 32 ∷ 49 ∷ 32 ∷ 48 ∷ 32 ∷ 49 ∷ []) 64 0 12 10
    -- blanks before the header, on its line
    ∷ edge (32 ∷ 9 ∷ 112 ∷ 32 ∷ 119 ∷ 99 ∷ 110 ∷ 102 ∷ 32 ∷ 49 ∷ 32 ∷ 48 ∷ 32 ∷ 49 ∷ 10 ∷ []) 64 0 15 10
    -- a header whose numbers run together with its word
    ∷ edge (112 ∷ 32 ∷ 119 ∷ 99 ∷ 110 ∷ 102 ∷ 49 ∷ 32 ∷ 48 ∷ 32 ∷ 49 ∷ 10 ∷ []) 64 30 0 0
    -- a fourth word in the header
    ∷ edge (112 ∷ 32 ∷ 119 ∷ 99 ∷ 110 ∷ 102 ∷ 32 ∷ 49 ∷ 32 ∷ 48 ∷ 32 ∷ 49 ∷ 32 ∷ 49 ∷ 10 ∷ []) 64 30 0 0
    -- no variables
    ∷ edge (112 ∷ 32 ∷ 119 ∷ 99 ∷ 110 ∷ 102 ∷ 32 ∷ 48 ∷ 32 ∷ 48 ∷ 32 ∷ 49 ∷ 10 ∷ []) 64 14 7 0
    -- a comment between the lines of a clause
    ∷ edge (112 ∷ 32 ∷ 119 ∷ 99 ∷ 110 ∷ 102 ∷ 32 ∷ 50 ∷ 32 ∷ 49 ∷ 32 ∷ 53 ∷ 10 ∷ 53 ∷ 32 ∷ 49 ∷ 10 ∷ 99 ∷ 32 ∷ 120 ∷ 10 ∷ 50 ∷ 32 ∷ 48 ∷ 10 ∷ []) 64 0 25 24
    -- a c behind a blank is a word
    ∷ edge (112 ∷ 32 ∷ 119 ∷ 99 ∷ 110 ∷ 102 ∷ 32 ∷ 50 ∷ 32 ∷ 49 ∷ 32 ∷ 53 ∷ 10 ∷ 53 ∷ 32 ∷ 49 ∷ 10 ∷ 32 ∷ 99 ∷ 32 ∷ 120 ∷ 10 ∷ []) 64 31 18 0
    -- a minus sign before 0
    ∷ edge (112 ∷ 32 ∷ 119 ∷ 99 ∷ 110 ∷ 102 ∷ 32 ∷ 50 ∷ 32 ∷ 49 ∷ 32 ∷ 53 ∷ 10 ∷ 53 ∷ 32 ∷ 49 ∷ 32 ∷ 45 ∷ 48 ∷ 10 ∷ []) 64 31 17 0
    -- zeros before a number, and as the end
    ∷ edge (112 ∷ 32 ∷ 119 ∷ 99 ∷ 110 ∷ 102 ∷ 32 ∷ 50 ∷ 32 ∷ 49 ∷ 32 ∷ 53 ∷ 10 ∷ 48 ∷ 48 ∷ 53 ∷ 32 ∷ 45 ∷ 48 ∷ 49 ∷ 32 ∷ 48 ∷ 48 ∷ 10 ∷ []) 64 0 24 20
    -- a weight above top makes a wish
    ∷ edge (112 ∷ 32 ∷ 119 ∷ 99 ∷ 110 ∷ 102 ∷ 32 ∷ 50 ∷ 32 ∷ 49 ∷ 32 ∷ 53 ∷ 10 ∷ 54 ∷ 32 ∷ 49 ∷ 32 ∷ 50 ∷ 32 ∷ 48 ∷ 10 ∷ []) 64 0 21 28
    -- a wish too heavy
    ∷ edge (112 ∷ 32 ∷ 119 ∷ 99 ∷ 110 ∷ 102 ∷ 32 ∷ 50 ∷ 32 ∷ 49 ∷ 32 ∷ 53 ∷ 10 ∷ 49 ∷ 48 ∷ 48 ∷ 48 ∷ 48 ∷ 48 ∷ 49 ∷ 32 ∷ 49 ∷ 32 ∷ 48 ∷ 10 ∷ []) 64 15 13 0
    -- a variable outside, and one twice: the lower number
    ∷ edge (112 ∷ 32 ∷ 119 ∷ 99 ∷ 110 ∷ 102 ∷ 32 ∷ 50 ∷ 32 ∷ 49 ∷ 32 ∷ 53 ∷ 10 ∷ 53 ∷ 32 ∷ 49 ∷ 32 ∷ 49 ∷ 32 ∷ 51 ∷ 32 ∷ 48 ∷ 10 ∷ []) 64 17 13 0
    -- a variable twice
    ∷ edge (112 ∷ 32 ∷ 119 ∷ 99 ∷ 110 ∷ 102 ∷ 32 ∷ 50 ∷ 32 ∷ 49 ∷ 32 ∷ 53 ∷ 10 ∷ 53 ∷ 32 ∷ 49 ∷ 32 ∷ 45 ∷ 49 ∷ 32 ∷ 48 ∷ 10 ∷ []) 64 18 13 0
    -- a clause without its 0
    ∷ edge (112 ∷ 32 ∷ 119 ∷ 99 ∷ 110 ∷ 102 ∷ 32 ∷ 50 ∷ 32 ∷ 49 ∷ 32 ∷ 53 ∷ 10 ∷ 53 ∷ 32 ∷ 49 ∷ []) 64 32 16 0
    -- a clause too few
    ∷ edge (112 ∷ 32 ∷ 119 ∷ 99 ∷ 110 ∷ 102 ∷ 32 ∷ 50 ∷ 32 ∷ 49 ∷ 32 ∷ 53 ∷ 10 ∷ []) 64 33 13 0
    -- the room exactly long enough
    ∷ edge (112 ∷ 32 ∷ 119 ∷ 99 ∷ 110 ∷ 102 ∷ 32 ∷ 50 ∷ 32 ∷ 49 ∷ 32 ∷ 53 ∷ 10 ∷ 53 ∷ 32 ∷ 49 ∷ 32 ∷ 48 ∷ 10 ∷ []) 20 0 19 20
    -- a byte short
    ∷ edge (112 ∷ 32 ∷ 119 ∷ 99 ∷ 110 ∷ 102 ∷ 32 ∷ 50 ∷ 32 ∷ 49 ∷ 32 ∷ 53 ∷ 10 ∷ 53 ∷ 32 ∷ 49 ∷ 32 ∷ 48 ∷ 10 ∷ []) 19 34 19 0
    ∷ []

abbrev pub edges_computed : List TextAnswer
edges_computed = map (λ (e : Edge). text_answer e.text e.room) edges

abbrev pub edges_stated : List TextAnswer
edges_stated = map (λ (e : Edge). e.answer) edges
