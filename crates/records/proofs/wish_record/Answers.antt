-- Each way out is one law of ByKind.
use Rattle.std.proofs.Common.{◌∙◌, subst, sym}
use Rattle.rooms.specs.Held.{HeldWishes, HeldWeights}
use Rattle.records.proofs.ByKind.{part_long, wish_comes}
use Rattle.records.proofs.wish_record.Goals as goal

pub returns-clause-stepped : goal.returns-clause-stepped
returns-clause-stepped c =
    λ s outputs r eq b H W z.
    let k = c.wish_with.ensures.stepped s outputs r eq H W z in
    let long = sym (part_long _ _ _ c.min-count.ensures) ∙ c.min-count.ensures in
    let l = wish_comes s r c.args.payload.now b c.if-payload-lt4.false c.if-payload-ne0.false _ long in
    (k.0 ∙ l.out, subst (HeldWishes _ _ _) l.after k.1, subst (HeldWeights _ _) l.after k.2)
