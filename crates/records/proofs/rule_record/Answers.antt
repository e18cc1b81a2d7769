-- Each way out is one law of ByKind.
use Rattle.std.proofs.Common.{◌∙◌, subst, sym}
use Rattle.rooms.specs.Held.{HeldRules}
use Rattle.records.proofs.ByKind.{part_long, rule_comes}
use Rattle.records.proofs.rule_record.Goals as goal

pub returns-clause-stepped : goal.returns-clause-stepped
returns-clause-stepped c =
    λ s r eq b H z.
    let k = c.rule_with.ensures.stepped s r eq H z in
    let long = sym (part_long _ _ _ c.min-count.ensures) ∙ c.min-count.ensures in
    let l = rule_comes s r c.args.payload.now b c.if-payload-ne0.false _ long in
    (k.0 ∙ l.out, subst (HeldRules _ _) l.after k.1)
