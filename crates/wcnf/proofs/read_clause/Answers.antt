-- A clause that is complete and allowed is put, and each other way out is a fault of the whole text.
use Rattle.std.proofs.Common.{rules, ◌≡◌, refl, sym, ◌∙◌}
use Rattle.paper.specs.Reasons.{reason_number, refusal_number}
use Rattle.paper.specs.Texts.{clause_record}
use Rattle.literals.specs.Reading.{literals_at}
use Rattle.output.proofs.Rooms.{put-length}
use Rattle.clauses.proofs.Lowest.{reason_some}
use Rattle.wcnf.proofs.Laws.{keeps, no_literals, not_allowed, allowed, one_fault}
use Rattle.wcnf.proofs.read_clause.Goals as goal

pub returns-in_err-read-clause-one_clause : goal.returns-in_err-read-clause-one_clause
returns-in_err-read-clause-one_clause c =
    let R = c.in_err-read.ensures in
    let broken = no_literals c.args.text.now c.args.header c.args.word.start c.args.word.end c.in_ok-weight.weight (search rules)
    (λ z. reason_some c.in_err-read.field-0.0.reason (R.number_is ∙ z)) in
    one_fault _ c.from_residual-in_err-read.ensures.1 refl (λ done. rw (R.number_is, R.position_is) (broken done))

pub returns-in_err-map_err-clause-one_clause : goal.returns-in_err-map_err-clause-one_clause
returns-in_err-map_err-clause-one_clause c =
    let R = c.in_ok-read.ensures in
    let lits = (literals_at c.args.text.now c.args.word.end).literals in
    let K = keeps c.get-kept.result c.args.literals.now _ _ lits c.told-literals R.count_is R.room_is c.get-kept.ensures.lookup.0 in
    let number = c.clause_refusal.ensures.answer 2002 lits K c.requires.high_value.0 c.requires.high_value.1 in
    let reason : reason_number c.in_err-map_err.field-0.0.reason ≡ refusal_number c.clause_refusal.result = search rules in
    let position : c.in_err-map_err.field-0.0.position ≡ c.args.word.start = search rules in
    let refused = not_allowed c.args.text.now c.args.header c.args.word.start c.args.word.end c.in_ok-weight.weight (search rules)
    (sym R.number_is) _ (reason ∙ number) (reason_some c.in_err-map_err.field-0.0.reason) in
    one_fault _ c.from_residual-in_err-map_err.ensures.1 refl (λ done. rw position (refused done))

pub returns-clause-one_clause : goal.returns-clause-one_clause
returns-clause-one_clause c =
    let R = c.in_ok-read.ensures in
    let lits = (literals_at c.args.text.now c.args.word.end).literals in
    let K = keeps c.get-kept.result c.args.literals.now _ _ lits c.told-literals R.count_is R.room_is c.get-kept.ensures.lookup.0 in
    let number = c.clause_refusal.ensures.answer 2002 lits K c.requires.high_value.0 c.requires.high_value.1 in
    let fine : 0 ≡ refusal_number c.clause_refusal.result = search rules in
    let kept : c.unwrap_or_default.result.now ≡ lits = search (rules, K) in
    record {
      size = put-length c.put_clause-written.ensures;
      read = record {
        made = clause_record c.args.header.top c.in_ok-weight.weight lits;
        put = rw kept at c.put_clause-written.ensures;
        onward = R.further refl;
        within = R.within;
        goes = allowed c.args.text.now c.args.header c.args.word.start c.args.word.end c.in_ok-weight.weight (search rules)
            (sym R.number_is) (fine ∙ number) _ R.words_on;
      };
    }
