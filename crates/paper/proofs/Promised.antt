-- The theorem of this crate: every promise is kept.
use mathlib.Core.Path.{◌≡◌, refl, sym, ◌∙◌}
use mathlib.Core.List.{List, [], ◌∷◌}
use Rattle.paper.specs.Session.{fresh}
use Rattle.paper.specs.Runs.{Line, lines_from}
use Rattle.paper.specs.Inputs.{run, digits, decimal, line_text}
use Rattle.paper.specs.Worked.{input, input_bytes, line}
use Rattle.paper.specs.Promises.{Promised, WorkedTable, WorkedBytes, LineAsText, EdgesOfTexts}
use Rattle.paper.proofs.Tables.{decided, lowest_first}
use Rattle.paper.proofs.Trees.{halves, by_inputs, table_rule}
use Rattle.paper.proofs.Listing.{listed}
use Rattle.paper.proofs.Costs.{counters_true, derived_true, empty_clause, no_cheaper, cost_law, total_law}
use Rattle.paper.proofs.Later.{unmoved}
use Rattle.paper.proofs.Reorder.{any_mixture, reordered}
use Rattle.paper.proofs.Inputs.{in_blocks, ends_wrong, ends_short}

-- The definitions' own run of the whole input.
worked_table : WorkedTable
worked_table = refl

-- All its lines. The run over the steps and the run over the bytes are each held to these: held to each other they would take ten
-- times as long to compute.
abbrev pub worked_lines_lem : List Line
worked_lines_lem =
    line 1 1 0 3 0
    ∷ line 2 2 0 0 0
    ∷ line 3 2 0 1 0
    ∷ line 4 2 0 2 0
    ∷ line 5 3 0 0 2001
    ∷ line 6 3 0 1 2002
    ∷ line 7 3 0 2 2003
    ∷ line 8 4 0 0 2
    ∷ line 9 5 0 2 2
    ∷ line 10 4 0 1 2
    ∷ line 11 5 0 3 1
    ∷ line 12 4 0 2 2
    ∷ line 13 5 0 5 2
    ∷ line 14 6 1 5 5
    ∷ line 15 3 0 3 2004
    ∷ line 16 6 0 10 5
    ∷ line 17 4 0 3 2
    ∷ line 18 5 0 6 1
    ∷ line 19 6 1 6 6
    ∷ line 20 5 22 0 0
    ∷ line 21 6 24 1 0
    ∷ []

pub by_steps : lines_from 1 fresh input ≡ worked_lines_lem
by_steps = refl

by_bytes : run input_bytes ≡ worked_lines_lem
by_bytes = refl

worked_bytes : WorkedBytes
worked_bytes = by_bytes ∙ sym by_steps

line_as_text : LineAsText
unfolding digits decimal line_text
line_as_text = refl

edges_of_texts : EdgesOfTexts
edges_of_texts = refl

pub promised : Promised
promised = record {
  decided = decided;
  lowest_first = lowest_first;
  halves = halves;
  by_inputs = by_inputs;
  table_rule = table_rule;
  listed = listed;
  counters_true = counters_true;
  derived_true = derived_true;
  empty_clause = empty_clause;
  no_cheaper = no_cheaper;
  any_mixture = any_mixture;
  reordered = reordered;
  cost_law = cost_law;
  total_law = total_law;
  unmoved = unmoved;
  in_blocks = in_blocks;
  ends_wrong = ends_wrong;
  ends_short = ends_short;
  worked_table = worked_table;
  worked_bytes = worked_bytes;
  line_as_text = line_as_text;
  edges_of_texts = edges_of_texts;
}
