-- No reached session is past the guards, and the parts add up.
use Rattle.std.proofs.Common.{◌∙◌, arith, sym}
use Rattle.paper.specs.Session.{remaining}
use Rattle.paper.specs.Truth.{arranged, truth}
use Rattle.paper.proofs.Costs.{cost_law}
use Rattle.weigh.proofs.Marks.{none_marked}
use Rattle.weigh.proofs.Whole.{few_wishes_lem, few_counters_lem, total, over_wishes, over_counters}
use Rattle.weigh.proofs.weigh.Goals.{then-tally-gt-MOST_WISHES-via-then-tally-gt-MOST_WISHES, then-tally-gt-MOST_WISHES-via-else-tally-gt-MOST_WISHES+then-width-tally}
use Rattle.weigh.proofs.weigh.Goals as goal

pub returns-then-tally-gt-MOST_WISHES : goal.returns-then-tally-gt-MOST_WISHES
returns-then-tally-gt-MOST_WISHES c =
    λ s n m reached eq H C G b p k q. elim c.then-tally-gt-MOST_WISHES.branch [
      | then-tally-gt-MOST_WISHES-via-then-tally-gt-MOST_WISHES w ↦
          absurd (omega (arith, w.if-tally-gt-MOST_WISHES, few_wishes_lem s reached c.args.tally eq))
      | then-tally-gt-MOST_WISHES-via-else-tally-gt-MOST_WISHES+then-width-tally w ↦
          absurd (omega (arith, w.if-width-tally, few_counters_lem s reached c.args.tally eq _ c.width_of-width.ensures))
    ]

pub returns : goal.returns
returns c =
    λ s n m reached eq H C G b p k q.
    let arrangement = arranged c.args.arrangement.now in
    let narrow-is = c.width_of-width.ensures in
    let t = truth s.sheet s.work arrangement in
    let f = remaining s.sheet s.work in
    let by-wishes = over_wishes s reached c.args.tally eq _ narrow-is arrangement G H n p in
    let wishes = c.weigh_wishes-on_wishes.ensures.1 s t f n by-wishes (none_marked n _ _ b) in
    let by-counters = over_counters s reached c.args.tally eq _ narrow-is arrangement G C m n q wishes.0 in
    let counters = c.weigh_counters-on_outputs.ensures.1 s arrangement t f m by-counters (none_marked m _ _ k) in
    let sum = total s reached c.args.tally eq _ narrow-is arrangement _ _ _ c.from.ensures wishes.1 counters.1 in (
      c.clear.ensures n _ wishes.0 ∙ sym b,
      c.clear-2.ensures m _ counters.0 ∙ sym k,
      sum,
      λ met. sum ∙ sym (cost_law s reached arrangement met),
    )
