-- The numbers of the refusals, for the code's words for them. Of a result that is refused or not it is the refusal's number, or 0.
use Rattle.std.specs.Prelude.{ℕ, Result, Ok, Err}
use Rattle.paper.specs.declared.Reason.{Reason}
use Rattle.paper.specs.declared.Reason.TheVariants.{NoRecord, UnknownKind, OutOfTurn, WrongForm, WrongVariables, WrongWeight, TooManyLiterals, StrangeLiteral, VariableTwice, StrangeHint, NotShown, NoSuchClause, NoCore, NoRoom, BrokenRule, NoHeader, NoNumber, CutShort, WrongCount, ShortRoom}

abbrev pub reason_number : Reason → ℕ
reason_number NoRecord = 10
reason_number UnknownKind = 11
reason_number OutOfTurn = 12
reason_number WrongForm = 13
reason_number WrongVariables = 14
reason_number WrongWeight = 15
reason_number TooManyLiterals = 16
reason_number StrangeLiteral = 17
reason_number VariableTwice = 18
reason_number StrangeHint = 19
reason_number NotShown = 20
reason_number NoSuchClause = 21
reason_number NoCore = 22
reason_number NoRoom = 23
reason_number BrokenRule = 24
reason_number NoHeader = 30
reason_number NoNumber = 31
reason_number CutShort = 32
reason_number WrongCount = 33
reason_number ShortRoom = 34

-- Of a test that is passed or gives a reason.
abbrev pub refusal_number : {A : Type 0} → Result A Reason → ℕ
refusal_number (Ok _) = 0
refusal_number (Err reason) = reason_number reason
