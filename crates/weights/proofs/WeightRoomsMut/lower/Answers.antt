-- One turn lowers one member more.
use Rattle.std.proofs.Common.{rules, ◌≡◌, ap, ◌∙◌, map, get_or, take, pos, to_z, of_z}
use mir.Syntax.{w32}
use Rattle.paper.specs.Clauses.{variable}
use Rattle.weights.specs.Weights.{lost}
use Rattle.weights.proofs.Spreads.{lost_more}
use Rattle.weights.proofs.Members.{members_more}
use Rattle.weights.proofs.WeightRoomsMut.lower.Goals as goal

pub loop-member-preserved : goal.loop-member-preserved
loop-member-preserved c =
    let o = c.loop-member in
    let w = c.args.weight in
    let l = get_or c.args.clause.now o.member-index (pos 0) in
    let z : to_z w32 (of_z w32 l) ≡ l = search rules in
    let member = c.variable_of-variable.ensures ∙ ap variable z in
    let xs = map variable (take o.member-index c.args.clause.now) in
    record {
      same = search rules;
      so_far = λ f spaced weighs.
          rw (members_more c.args.clause.now o.member-index c.loop-member-test.true, ← (lost_more w f xs (variable l)))
          (rw member at (c.lower_one.ensures.lowered (lost f w xs) spaced (o.invariant.so_far f spaced weighs)));
    }
