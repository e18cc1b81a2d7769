-- "One run, whole": its input, and the table that is proved of it.
use Rattle.std.specs.Prelude.{List, [], ◌∷◌, map, ℕ, ◌-◌, pos, negsuc, get_or}
use Rattle.paper.specs.Counters.{clauses_of}
use Rattle.paper.specs.Session.{fresh, of_rule, of_wish, of_counter}
use Rattle.paper.specs.Truth.{arranged}
use Rattle.paper.specs.Steps.{Step, opening, rule, wish, derive, core, judge}
use Rattle.paper.specs.Answers.{give}
use Rattle.paper.specs.Runs.{Line, lines_from}

abbrev pub input : List Step
input =
    opening 3
    ∷ rule (pos 1 ∷ pos 2 ∷ [])
    ∷ rule (pos 2 ∷ pos 3 ∷ [])
    ∷ rule (pos 1 ∷ pos 3 ∷ [])
    ∷ wish 3 (negsuc 0 ∷ [])
    ∷ wish 2 (negsuc 1 ∷ [])
    ∷ wish 4 (negsuc 2 ∷ [])
    ∷ derive (pos 2001 ∷ pos 2002 ∷ []) (of_wish 0 ∷ of_wish 1 ∷ of_rule 0 ∷ [])
    ∷ core 0
    ∷ derive (pos 2001 ∷ pos 2003 ∷ []) (of_wish 0 ∷ of_wish 2 ∷ of_rule 2 ∷ [])
    ∷ core 1
    ∷ derive (pos 4002 ∷ pos 2003 ∷ []) (of_wish 2 ∷ of_rule 1 ∷ of_rule 2 ∷ of_wish 0 ∷ of_wish 1 ∷ of_counter 0 2 ∷ [])
    ∷ core 2
    ∷ judge (arranged (3 ∷ []))
    ∷ wish 5 (pos 3 ∷ [])
    ∷ judge (arranged (3 ∷ []))
    ∷ derive (pos 2003 ∷ pos 2004 ∷ []) (of_wish 2 ∷ of_wish 3 ∷ [])
    ∷ core 3
    ∷ judge (arranged (6 ∷ []))
    ∷ core 0
    ∷ judge (arranged (1 ∷ []))
    ∷ []

-- The same as bytes, a record on each line.
abbrev pub input_bytes : List ℕ
input_bytes =
    6 ∷ 0 ∷ 0 ∷ 0 ∷ 1 ∷ 0 ∷ 3 ∷ 0 ∷ 0 ∷ 0
    ∷ 10 ∷ 0 ∷ 0 ∷ 0 ∷ 2 ∷ 0 ∷ 1 ∷ 0 ∷ 0 ∷ 0 ∷ 2 ∷ 0 ∷ 0 ∷ 0
    ∷ 10 ∷ 0 ∷ 0 ∷ 0 ∷ 2 ∷ 0 ∷ 2 ∷ 0 ∷ 0 ∷ 0 ∷ 3 ∷ 0 ∷ 0 ∷ 0
    ∷ 10 ∷ 0 ∷ 0 ∷ 0 ∷ 2 ∷ 0 ∷ 1 ∷ 0 ∷ 0 ∷ 0 ∷ 3 ∷ 0 ∷ 0 ∷ 0
    ∷ 10 ∷ 0 ∷ 0 ∷ 0 ∷ 3 ∷ 0 ∷ 3 ∷ 0 ∷ 0 ∷ 0 ∷ 255 ∷ 255 ∷ 255 ∷ 255
    ∷ 10 ∷ 0 ∷ 0 ∷ 0 ∷ 3 ∷ 0 ∷ 2 ∷ 0 ∷ 0 ∷ 0 ∷ 254 ∷ 255 ∷ 255 ∷ 255
    ∷ 10 ∷ 0 ∷ 0 ∷ 0 ∷ 3 ∷ 0 ∷ 4 ∷ 0 ∷ 0 ∷ 0 ∷ 253 ∷ 255 ∷ 255 ∷ 255
    ∷ 38 ∷ 0 ∷ 0 ∷ 0 ∷ 4 ∷ 0 ∷ 2 ∷ 0 ∷ 0 ∷ 0 ∷ 209 ∷ 7 ∷ 0 ∷ 0 ∷ 210 ∷ 7 ∷ 0 ∷ 0 ∷ 2 ∷ 0 ∷ 0 ∷ 0 ∷ 0 ∷ 0 ∷ 0 ∷ 0 ∷ 2 ∷ 0 ∷ 0 ∷ 0 ∷ 1 ∷ 0 ∷ 0 ∷ 0 ∷ 1 ∷ 0 ∷ 0 ∷ 0 ∷ 0 ∷ 0 ∷ 0 ∷ 0
    ∷ 6 ∷ 0 ∷ 0 ∷ 0 ∷ 5 ∷ 0 ∷ 0 ∷ 0 ∷ 0 ∷ 0
    ∷ 38 ∷ 0 ∷ 0 ∷ 0 ∷ 4 ∷ 0 ∷ 2 ∷ 0 ∷ 0 ∷ 0 ∷ 209 ∷ 7 ∷ 0 ∷ 0 ∷ 211 ∷ 7 ∷ 0 ∷ 0 ∷ 2 ∷ 0 ∷ 0 ∷ 0 ∷ 0 ∷ 0 ∷ 0 ∷ 0 ∷ 2 ∷ 0 ∷ 0 ∷ 0 ∷ 2 ∷ 0 ∷ 0 ∷ 0 ∷ 1 ∷ 0 ∷ 0 ∷ 0 ∷ 2 ∷ 0 ∷ 0 ∷ 0
    ∷ 6 ∷ 0 ∷ 0 ∷ 0 ∷ 5 ∷ 0 ∷ 1 ∷ 0 ∷ 0 ∷ 0
    ∷ 62 ∷ 0 ∷ 0 ∷ 0 ∷ 4 ∷ 0 ∷ 2 ∷ 0 ∷ 0 ∷ 0 ∷ 162 ∷ 15 ∷ 0 ∷ 0 ∷ 211 ∷ 7 ∷ 0 ∷ 0 ∷ 2 ∷ 0 ∷ 0 ∷ 0 ∷ 2 ∷ 0 ∷ 0 ∷ 0 ∷ 1 ∷ 0 ∷ 0 ∷ 0 ∷ 1 ∷ 0 ∷ 0 ∷ 0 ∷ 1 ∷ 0 ∷ 0 ∷ 0 ∷ 2 ∷ 0 ∷ 0 ∷ 0 ∷ 2 ∷ 0 ∷ 0 ∷ 0 ∷ 0 ∷ 0 ∷ 0 ∷ 0 ∷ 2 ∷ 0 ∷ 0 ∷ 0 ∷ 1 ∷ 0 ∷ 0 ∷ 0 ∷ 3 ∷ 0 ∷ 0 ∷ 0 ∷ 2 ∷ 0 ∷ 0 ∷ 0
    ∷ 6 ∷ 0 ∷ 0 ∷ 0 ∷ 5 ∷ 0 ∷ 2 ∷ 0 ∷ 0 ∷ 0
    ∷ 3 ∷ 0 ∷ 0 ∷ 0 ∷ 6 ∷ 0 ∷ 3
    ∷ 10 ∷ 0 ∷ 0 ∷ 0 ∷ 3 ∷ 0 ∷ 5 ∷ 0 ∷ 0 ∷ 0 ∷ 3 ∷ 0 ∷ 0 ∷ 0
    ∷ 3 ∷ 0 ∷ 0 ∷ 0 ∷ 6 ∷ 0 ∷ 3
    ∷ 30 ∷ 0 ∷ 0 ∷ 0 ∷ 4 ∷ 0 ∷ 2 ∷ 0 ∷ 0 ∷ 0 ∷ 211 ∷ 7 ∷ 0 ∷ 0 ∷ 212 ∷ 7 ∷ 0 ∷ 0 ∷ 2 ∷ 0 ∷ 0 ∷ 0 ∷ 2 ∷ 0 ∷ 0 ∷ 0 ∷ 2 ∷ 0 ∷ 0 ∷ 0 ∷ 3 ∷ 0 ∷ 0 ∷ 0
    ∷ 6 ∷ 0 ∷ 0 ∷ 0 ∷ 5 ∷ 0 ∷ 3 ∷ 0 ∷ 0 ∷ 0
    ∷ 3 ∷ 0 ∷ 0 ∷ 0 ∷ 6 ∷ 0 ∷ 6
    ∷ 6 ∷ 0 ∷ 0 ∷ 0 ∷ 5 ∷ 0 ∷ 0 ∷ 0 ∷ 0 ∷ 0
    ∷ 3 ∷ 0 ∷ 0 ∷ 0 ∷ 6 ∷ 0 ∷ 1
    ∷ []

-- Some lines of a run by their place, and a counter's clauses by the number of its inputs.
pub record Table : Type 0 where
  pub lines : List Line
  pub clause_counts : List ℕ

abbrev pub line : ℕ → ℕ → ℕ → ℕ → ℕ → Line
line place kind number first second = record { place = place; kind = kind; given = give number first second }

abbrev pub computed : Table
computed =
    record {
      lines =
          map (λ place. get_or (lines_from 1 fresh input) (place - 1) (line 0 0 0 0 0))
          (9 ∷ 11 ∷ 13 ∷ 14 ∷ 16 ∷ 18 ∷ 19 ∷ 20 ∷ 21 ∷ []);
      clause_counts = map clauses_of (2 ∷ 3 ∷ 4 ∷ []);
    }

abbrev pub printed : Table
printed =
    record {
      lines =
          line 9 5 0 2 2
          ∷ line 11 5 0 3 1
          ∷ line 13 5 0 5 2
          ∷ line 14 6 1 5 5
          ∷ line 16 6 0 10 5
          ∷ line 18 5 0 6 1
          ∷ line 19 6 1 6 6
          ∷ line 20 5 22 0 0
          ∷ line 21 6 24 1 0
          ∷ [];
      clause_counts = 3 ∷ 8 ∷ 14 ∷ [];
    }
