-- A line ends at the first byte that stops it.
use Rattle.std.proofs.Common.{rules, drop, eqb, ◌∙◌}
use Rattle.words.proofs.Fronts.{line_front, front_ends}
use Rattle.words.proofs.line_end.Goals as goal

pub returns : goal.returns
returns c = c.first_stop.ensures (λ b. eqb b 10) (λ b r p. search (rules, p)) ∙ rw (front_ends line_front (drop c.args.at c.args.text.now))
