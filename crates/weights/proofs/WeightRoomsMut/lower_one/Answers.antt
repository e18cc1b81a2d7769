-- `lower_one` meets its contract.
use Rattle.std.proofs.Common.{ap, sym, ◌∙◌, Some}
use Rattle.weights.specs.Weights.{in_room}
use Rattle.weights.proofs.Rooms.{wish_lowered, output_lowered, none_lowered}
use Rattle.weights.proofs.WeightRoomsMut.lower_one.Goals as goal

pub returns-in-Some-InWishes-clause-lowered : goal.returns-in-Some-InWishes-clause-lowered
returns-in-Some-InWishes-clause-lowered c = λ f spaced weighs.
    rw c.lower_at.ensures
    (wish_lowered weighs c.args.weight c.args.variable c.in-Some-InWishes.at
    (sym (c.place_of.ensures spaced) ∙ c.in-Some-InWishes.is ∙ ap Some c.in-Some-InWishes.field-0-is))

pub returns-in-Some-InOutputs-clause-lowered : goal.returns-in-Some-InOutputs-clause-lowered
returns-in-Some-InOutputs-clause-lowered c = λ f spaced weighs.
    rw c.lower_at-in-Some-InOutputs.ensures
    (output_lowered weighs c.args.weight c.args.variable spaced c.in-Some-InOutputs.at
    (sym (c.place_of.ensures spaced) ∙ c.in-Some-InOutputs.is ∙ ap Some c.in-Some-InOutputs.field-0-is))

pub returns-in-None-clause-lowered : goal.returns-in-None-clause-lowered
returns-in-None-clause-lowered c = λ f spaced weighs.
    none_lowered weighs c.args.weight c.args.variable spaced
    (ap (in_room c.args.width) (sym (c.place_of.ensures spaced) ∙ c.in-None.is))
