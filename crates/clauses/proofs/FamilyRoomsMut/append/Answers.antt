-- `append` meets its contract.
use Rattle.std.proofs.Common.{arith, ◌≡◌, ◌∙◌, ap}
use Rattle.clauses.specs.Family.{start_in}
use Rattle.clauses.proofs.Family.{many, long, uncounted, taken}
use Rattle.clauses.proofs.FamilyRoomsMut.append.Goals.{then-self-end-via-then-self-end, then-self-end-via-else-self-end+then-end-gt4294967295}
use Rattle.clauses.proofs.FamilyRoomsMut.append.Goals as goal

pub returns-then-self-number-clause-appended : goal.returns-then-self-number-clause-appended
returns-then-self-number-clause-appended c =
    many c.args.self.now.literals.now c.args.self.now.ends.now c.args.count c.args.clause.now (omega arith)

pub returns-then-self-end-clause-appended : goal.returns-then-self-end-clause-appended
returns-then-self-end-clause-appended c =
    let e : c.start_of-start.result ≡ start_in c.args.self.now.ends.now c.args.count =
    c.start_of-start.ensures.0 ∙ ap (λ ends. start_in ends c.args.count) c.view.ensures.1 in
    elim c.then-self-end.branch [
      | then-self-end-via-then-self-end w ↦
          long c.args.self.now.literals.now c.args.self.now.ends.now c.args.count c.args.clause.now (omega (arith, e, w.if-self-end))
      | then-self-end-via-else-self-end+then-end-gt4294967295 w ↦
          uncounted c.args.self.now.literals.now c.args.self.now.ends.now c.args.count c.args.clause.now (omega (arith, e, w.if-self-end)) (omega (arith, e, w.if-end-gt4294967295))
    ]

pub returns-clause-appended : goal.returns-clause-appended
returns-clause-appended c =
    let e : c.start_of-start.result ≡ start_in c.args.self.now.ends.now c.args.count =
    c.start_of-start.ensures.0 ∙ ap (λ ends. start_in ends c.args.count) c.view.ensures.1 in
    rw (c.copy_in.ensures, e)
    (taken c.args.self.now.literals.now c.args.self.now.ends.now c.args.count c.args.clause.now (omega arith) (omega (arith, e)))
