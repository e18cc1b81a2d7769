-- `weight_of` meets its contract.
use Rattle.std.proofs.Common.{rules, ◌≡◌, sym, ap, ◌∙◌, get_or, Some}
use Rattle.weights.proofs.Rooms.{weight_is}
use Rattle.weights.proofs.WeightRooms.weight_of.Goals as goal

pub returns-in-Some-InWishes : goal.returns-in-Some-InWishes
returns-in-Some-InWishes c =
    let read : c.unwrap_or.result ≡ get_or c.args.self.wishes.now c.in-Some-InWishes.at 0 = search rules in
    λ f spaced weighs none.
    read ∙ weight_is weighs none c.args.variable _
    (sym (c.place_of.ensures spaced) ∙ c.in-Some-InWishes.is ∙ ap Some c.in-Some-InWishes.field-0-is)

pub returns-in-Some-InOutputs : goal.returns-in-Some-InOutputs
returns-in-Some-InOutputs c =
    let read : c.unwrap_or-in-Some-InOutputs.result ≡ get_or c.args.self.outputs.now c.in-Some-InOutputs.at 0 = search rules in
    λ f spaced weighs none.
    read ∙ weight_is weighs none c.args.variable _
    (sym (c.place_of.ensures spaced) ∙ c.in-Some-InOutputs.is ∙ ap Some c.in-Some-InOutputs.field-0-is)
