-- The part of the trail unmarks as the trail does.
use Rattle.std.proofs.Common.{◌∙◌}
use Rattle.marks.proofs.Marks.{unmarked_part}
use Rattle.marks.proofs.take_back.Goals as goal

pub returns-in-Some-clause-within : goal.returns-in-Some-clause-within
returns-in-Some-clause-within c h =
    c.unmark.ensures.unmarked ∙ unmarked_part _ c.args.trail.now c.args.count _ c.in-Some.ensures.lookup.0.2 h
