-- The last literal is taken from those that are left.
use Rattle.std.proofs.Common.{◌≡◌, ◌∙◌, rules, set}
use Rattle.paper.specs.Clauses.{variable}
use Rattle.values.specs.Lent.{bytes}
use Rattle.marks.proofs.Marks.{unmarked_last}
use Rattle.marks.proofs.unmark.Goals as goal

pub loop-literal-preserved : goal.loop-literal-preserved
loop-literal-preserved c =
    let left = c.next.new.self.iter.rest.now in
    let literal = c.in-Some.literal.now in
    let back : bytes c.unassign.new.self ≡ set (bytes c.loop-literal.values) (variable literal) 0 = search rules in
    record {
      same = search rules;
      left = unmarked_last _ _ _ left literal c.in-Some.ensures.steps back ∙ c.loop-literal.invariant.left;
    }
