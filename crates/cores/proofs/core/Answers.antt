-- `core` meets its contract: each way out that the check leaves open is one law of Cores.
use Rattle.std.proofs.Common.{arith, ap, sym, ◌∙◌}
use mathlib.Core.Bool.{true≢false}
use Rattle.paper.specs.declared.Width.{Width}
use Rattle.paper.proofs.Reach.{reached_narrow}
use Rattle.cores.proofs.Cores.{clause_is, least_is, core_unformed, core_crowded, core_single, short, appended, core_several}
use Rattle.cores.proofs.core.Goals as goal

pub returns-in_default-clause-stepped : goal.returns-in_default-clause-stepped
returns-in_default-clause-stepped c = λ s r eq D H G.
    let a = c.args in
    let width = c.width_of-width.ensures ∙ sym (reached_narrow s r) in
    let members = c.clause-members.result.now in
    let read = clause_is s a.tally eq a.number _ _ D members c.clause-members.ensures in
    let least = least_is s a.tally eq a.number _ width r _ _ G members _ (rw (c.view.ensures.0, c.view.ensures.1) at c.least.ensures) in
    let l = core_unformed s a.tally eq a.number _ _ _ _ H G c.if-tally-eq0.false c.if-tally-number.false r members read _ least
    c.in_default.is in
    (c.refuse-in_default.ensures ∙ l.0, l.1, l.2)

pub returns-then-members-lt2-clause-stepped : goal.returns-then-members-lt2-clause-stepped
returns-then-members-lt2-clause-stepped c = λ s r eq D H G.
    let a = c.args in
    let width = c.width_of-width.ensures ∙ sym (reached_narrow s r) in
    let members = c.clause-members.result.now in
    let read = clause_is s a.tally eq a.number _ _ D members c.clause-members.ensures in
    let least = least_is s a.tally eq a.number _ width r _ _ G members _ (rw (c.view.ensures.0, c.view.ensures.1) at c.least.ensures) in
    let l = core_single s a.tally eq a.number _ _ _ _ H G c.if-tally-eq0.false c.if-tally-number.false r members read _ least
    c.in-Some.weight c.in-Some.is c.if-members-lt2.true _ _ (rw width at c.lower.ensures.lowered) in
    (c.relaxed.ensures l.0 ∙ l.1, l.2, l.3)

pub returns-then-width-count-clause-stepped : goal.returns-then-width-count-clause-stepped
returns-then-width-count-clause-stepped c = λ s r eq D H G.
    let a = c.args in
    let width = c.width_of-width.ensures ∙ sym (reached_narrow s r) in
    let members = c.clause-members.result.now in
    let read = clause_is s a.tally eq a.number _ _ D members c.clause-members.ensures in
    let least = least_is s a.tally eq a.number _ width r _ _ G members _ (rw (c.view.ensures.0, c.view.ensures.1) at c.least.ensures) in
    let l = core_crowded s a.tally eq a.number _ _ _ _ H G c.if-tally-eq0.false c.if-tally-number.false r members read _ least
    c.in-Some.weight c.in-Some.is (omega arith) (rw width at c.if-width-count.true) in
    (c.refuse-then-width-count.ensures ∙ l.0, l.1, l.2)

pub returns-in_default-try_from-clause-stepped : goal.returns-in_default-try_from-clause-stepped
returns-in_default-try_from-clause-stepped c = λ s r eq D H G.
    let a = c.args in
    let width = c.width_of-width.ensures ∙ sym (reached_narrow s r) in
    let members = c.clause-members.result.now in
    let read = clause_is s a.tally eq a.number _ _ D members c.clause-members.ensures in
    let least = least_is s a.tally eq a.number _ width r _ _ G members _ (rw (c.view.ensures.0, c.view.ensures.1) at c.least.ensures) in
    let l = short s a.tally eq a.number _ _ _ _ H G c.if-tally-eq0.false c.if-tally-number.false r members read _ least
    c.in-Some.weight c.in-Some.is (omega arith) (rw width at c.if-width-count.false) in
    let n = ap (λ (x : Width). x.literals) (reached_narrow s r) in
    absurd (c.in_default-try_from.ensures (omega arith))

pub returns-then-not-append-clause-stepped : goal.returns-then-not-append-clause-stepped
returns-then-not-append-clause-stepped c = λ s r eq D H G.
    let a = c.args in
    let width = c.width_of-width.ensures ∙ sym (reached_narrow s r) in
    let members = c.clause-members.result.now in
    let read = clause_is s a.tally eq a.number _ _ D members c.clause-members.ensures in
    let least = least_is s a.tally eq a.number _ width r _ _ G members _ (rw (c.view.ensures.0, c.view.ensures.1) at c.least.ensures) in
    let l = appended s a.tally eq a.number _ _ _ _ H G c.if-tally-eq0.false c.if-tally-number.false r members read _ least
    c.in-Some.weight c.in-Some.is (omega arith) (rw width at c.if-width-count.false)
    c.append.result _ _ c.append.ensures.appended in
    absurd (true≢false (sym l ∙ c.if-not-append.true))

pub returns-clause-stepped : goal.returns-clause-stepped
returns-clause-stepped c = λ s r eq D H G.
    let a = c.args in
    let width = c.width_of-width.ensures ∙ sym (reached_narrow s r) in
    let members = c.clause-members.result.now in
    let read = clause_is s a.tally eq a.number _ _ D members c.clause-members.ensures in
    let least = least_is s a.tally eq a.number _ width r _ _ G members _ (rw (c.view.ensures.0, c.view.ensures.1) at c.least.ensures) in
    let l = core_several s a.tally eq a.number _ _ _ _ H G c.if-tally-eq0.false c.if-tally-number.false r members read _ least
    c.in-Some.weight c.in-Some.is (omega arith) (rw width at c.if-width-count.false)
    c.append.result _ _ c.append.ensures.appended _ _ _
    (rw width at c.lower-2.ensures.lowered)
    (rw (width, c.in-Ok.ensures.1) at (c.raise.ensures c.lower-2.new.self.wishes.now)) in
    (c.relaxed-2.ensures l.0 ∙ l.1, l.2, l.3)
