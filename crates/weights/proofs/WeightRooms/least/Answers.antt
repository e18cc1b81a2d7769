-- A literal without weight decides alone; another one takes the least weight down to its own.
use Rattle.std.proofs.Common.{arith, rules, ◌≡◌, ap, sym, ◌∙◌, get_or, pos, to_z, of_z, Some}
use mir.Syntax.{w32}
use Rattle.weights.specs.Weights.{is_member, member_weight}
use Rattle.weights.proofs.Members.{some_weight, lesser, every_more, least_more}
use Rattle.weights.proofs.WeightRooms.least.Goals.{in-Some, in-None}
use Rattle.weights.proofs.WeightRooms.least.Goals as goal

pub loop-literal-preserved : goal.loop-literal-preserved
loop-literal-preserved c =
    let o = c.loop-literal in
    let clause = c.args.clause.now in
    let l = get_or clause o.literal-index (pos 0) in
    let z : to_z w32 (of_z w32 l) ≡ l = search rules in
    let w = c.in_ok-weight.weight in
    let chosen : c.match-least.least ≡ Some (lesser w o.least) = elim c.match-least.branch [
      | in-Some v ↦ grind (arith, v.least-is, v.in-Some.is)
      | in-None v ↦ v.least-is ∙ ap (λ least. Some (lesser w least)) (sym v.in-None.is)
    ] in
    record {
      so_far = λ f spaced weighs none.
          let k = some_weight f l w (sym (c.member_weight.ensures f spaced weighs none ∙ ap (member_weight f) z) ∙ c.in_ok-weight.was) in
          let before = o.invariant.so_far f spaced weighs none in (
            every_more (is_member f) clause o.literal-index c.loop-literal-test.true before.0 k.0,
            rw (least_more f clause o.literal-index c.loop-literal-test.true before.0 k.0, ← before.1, ← k.1) chosen,
          );
    }
