-- Each way out is one law of ByKind.
use Rattle.std.proofs.Common.{◌∙◌, subst, sym}
use Rattle.rooms.specs.Held.{HeldDerived}
use Rattle.records.proofs.ByKind.{part_long, derive_comes}
use Rattle.records.proofs.derive_record.Goals as goal

pub returns-clause-stepped : goal.returns-clause-stepped
returns-clause-stepped c =
    let n = c.number_of_four-literals.ensures in
    λ s r eq b H z.
    let k = rw n at (c.derive_with.ensures.stepped s r eq H z) in
    let count = sym (part_long _ _ _ c.min-count.ensures) ∙ c.min-count.ensures ∙ rw n in
    let many = sym (part_long _ _ _ c.min-hint_count.ensures) ∙ c.min-hint_count.ensures ∙ rw n in
    let l = derive_comes s r c.args.payload.now b c.if-payload-lt4.false
    (rw (← n) c.if-payload-start.false) (rw (← n) c.if-payload-start-ne0.false) _ _ count many in
    (k.0 ∙ l.out, subst (HeldDerived _ _) l.after k.1)
