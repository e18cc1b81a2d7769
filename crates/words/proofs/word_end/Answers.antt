-- A word ends at the first byte that stops it.
use Rattle.std.proofs.Common.{rules, drop, ◌∙◌}
use Rattle.paper.specs.Texts.{blank}
use Rattle.words.proofs.Fronts.{word_front, front_ends}
use Rattle.words.proofs.word_end.Goals as goal

pub returns : goal.returns
returns c = c.first_stop.ensures blank (λ b r p. search (rules, p)) ∙ rw (front_ends word_front (drop c.args.at c.args.text.now))
