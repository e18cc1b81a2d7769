-- `read_wish` meets its contract: the stretch of the wish's literals and its variable, read one after the other.
use Rattle.std.proofs.Common.{sym, ◌∙◌, [], ◌∷◌, arith, ℤ, pos}
use lib.ListN.{length-map, get_or-map}
use Rattle.paper.specs.Sizes.{wish_variable}
use Rattle.paper.specs.Session.{Wish, no_wish}
use Rattle.values.specs.Lent.{bytes_in}
use Rattle.readings.proofs.Readings.{read-append}
use Rattle.rooms.specs.Held.{wish_family}
use Rattle.hints.proofs.Hints.{forces_open, counted}
use Rattle.hints.proofs.read_wish.Goals as goal

pub returns-clause-forces : goal.returns-clause-forces
returns-clause-forces c = grind (arith, forces_open, read-append)

pub returns-clause-reads : goal.returns-clause-reads
returns-clause-reads c s H count named =
    let room = bytes_in c.args.values in
    let part = c.clause.result.now in
    let own : ℤ = pos (wish_variable c.args.number) in
    let stored = counted H (count ∙ sym (length-map s.sheet.wishes (λ (x : Wish). x.literals))) in
    let part_is = c.clause.ensures 8192 512 (wish_family s.sheet.wishes) stored
    ∙ get_or-map (λ (x : Wish). x.literals) s.sheet.wishes c.args.number no_wish in
    let more = read-append room part (own ∷ []) in
    grind (arith, part_is, more)
