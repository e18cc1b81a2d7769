-- Each way out, and each turn, is one law of Reading.
use Rattle.std.proofs.Common.{rules, ◌≡◌, sym, ap, ◌∙◌, w32, to_z, of_z}
use Rattle.literals.proofs.Reading.{none_read, at_end, stopped_by_word, stopped_by_zero, read_more}
use Rattle.literals.proofs.read_literals.Goals as goal

pub loop-found-init : goal.loop-found-init
loop-found-init c = none_read _ _ _

pub returns-in_default-read_literal : goal.returns-in_default-read_literal
returns-in_default-read_literal c = stopped_by_word c.loop-found.invariant c.in-Some.ensures c.in_default-read_literal.ensures

pub returns-then-literal-eq0 : goal.returns-then-literal-eq0
returns-then-literal-eq0 c =
    let z : to_z w32 (of_z w32 c.in-Some-read_literal.literal) ≡ c.in-Some-read_literal.literal = search rules in
    stopped_by_zero c.loop-found.invariant c.in-Some.ensures c.in-Some-read_literal.ensures (sym z ∙ ap (to_z w32) c.if-literal-eq0.true)

pub loop-found-preserved : goal.loop-found-preserved
loop-found-preserved c =
    let z : to_z w32 (of_z w32 c.in-Some-read_literal.literal) ≡ c.in-Some-read_literal.literal = search rules in
    read_more c.loop-found.invariant c.in-Some.ensures c.in-Some-read_literal.ensures (λ e. c.if-literal-eq0.false (ap (of_z w32) e)) (rw z at c.store.ensures)

pub returns : goal.returns
returns c = at_end c.loop-found.invariant c.in_default.ensures
