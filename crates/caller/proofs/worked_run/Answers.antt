-- Zeroed rooms keep the fresh session, and the definitions' run of the bytes has the worked lines.
use Rattle.std.proofs.Common.{◌≡◌, refl, sym, ap, ◌∙◌, subst, true, List, ℕ, length}
use Rattle.std.proofs.lemmas.List.Edits.{sets}
use Rattle.paper.specs.Session.{fresh}
use Rattle.paper.specs.Runs.{Line}
use Rattle.paper.specs.Inputs.{after, text}
use Rattle.paper.specs.Worked.{input_bytes}
use Rattle.paper.proofs.Promised.{worked_lines_lem, by_steps}
use Rattle.rooms.specs.Lent.{Keeps}
use Rattle.rooms.specs.declared.RoomsMut.{RoomsMut}
use Rattle.rooms.proofs.Kept.{fresh_counts, fresh_kept}
use Rattle.blocks.specs.declared.Progress.{Progress}
use Rattle.blocks.specs.Blocks.{taken_from, lines_in, progress_of}
use Rattle.caller.specs.Worked.{worked_lines}
use Rattle.caller.proofs.worked_run.Goals as goal

-- As in the paper's own proof, what is computed is held to the lines as they are printed.
in_one_block : lines_in true 1 fresh input_bytes (taken_from 1 input_bytes) ≡ worked_lines_lem
in_one_block = refl

lines : lines_in true 1 fresh input_bytes (taken_from 1 input_bytes) ≡ worked_lines
lines = in_one_block ∙ sym by_steps

-- What a run over these bytes alone leads to.
abbrev Ended : List ℕ → List ℕ → List ℕ → Progress → RoomsMut → Type 0
Ended block out out' done rooms =
    (done ≡ progress_of true 1 fresh block (taken_from 1 block))
    × (out' ≡ sets out 0 (text (lines_in true 1 fresh block (taken_from 1 block)))) × Keeps done.tally rooms (after fresh (taken_from 1 block))

pub returns : goal.returns
returns c =
    let begun = fresh_kept _ _ (fresh_counts c.default.result c.default.ensures) c.fresh-rooms.ensures in
    let done = c.run_block-done in
    let ran = subst (λ (block : List ℕ). Ended block c.args.out.now done.new.out done.result done.new.rooms) c.worked_input-records.ensures
    (done.ensures.ran fresh begun) in
    let kept = ran.2 in
    let held = kept.held in (
      ran.1 ∙ ap (λ (ls : List Line). sets c.args.out.now 0 (text ls)) lines,
      ap (λ (p : Progress). p.written) ran.0 ∙ ap (λ (ls : List Line). length (text ls)) lines,
      c.weighed.ensures _ kept.reached kept.counts held.wishes.clauses held.counters held.weights refl,
    )
