-- The lines of the worked run.
use Rattle.std.specs.Prelude.{List}
use Rattle.paper.specs.Session.{fresh}
use Rattle.paper.specs.Runs.{Line, lines_from}
use Rattle.paper.specs.Worked.{input}

abbrev pub worked_lines : List Line
worked_lines = lines_from 1 fresh input
