-- Each turn puts one truth of those that are still to come into the word.
use Rattle.std.proofs.Common.{◌≡◌, arith, rules, tests, get_or, drop, length-drop}
use Rattle.truths.specs.Truths.{bit_of}
use Rattle.truths.proofs.Ones.{wider, one_more, next, at_most}
use Rattle.truths.proofs.word_of.Goals as goal

pub loop-truth-preserved : goal.loop-truth-preserved
loop-truth-preserved c =
    let truths = c.args.truths.now in
    let at = c.loop-truth.truth-index in
    let byte = get_or truths at 0 in
    let bit : c.from.result ≡ bit_of byte = search (rules, tests) in
    let passed = next truths at c.loop-truth-test.true in
    let more = one_more c.loop-truth.word byte in
    rw bit (record { within = omega arith; small = wider c.loop-truth.word byte at c.loop-truth.invariant.small; together = omega arith })

pub returns : goal.returns
returns c = omega (arith, at_most (drop c.loop-truth.truth-index c.args.truths.now), length-drop c.loop-truth.truth-index c.args.truths.now)
