-- `read_counter` meets its contract.
use Rattle.std.proofs.Common.{arith, sym, ◌∙◌}
use mathlib.Core.List.{map}
use lib.ListN.{length-map, get_or-map}
use Rattle.paper.specs.Session.{no_counter}
use Rattle.rooms.specs.Held.{inputs_of}
use Rattle.hints.proofs.Hints.{forces_open, counted, numbered_is}
use Rattle.hints.proofs.read_counter.Goals as goal

pub returns-clause-forces : goal.returns-clause-forces
returns-clause-forces c = grind (arith, forces_open)

pub returns-clause-reads : goal.returns-clause-reads
returns-clause-reads c s r H count width named =
    let a = c.args in
    let counters = s.work.counters in
    let stored = counted H (count ∙ sym (length-map counters inputs_of)) in
    let inputs_are =
    c.clause-members.ensures _ _ (map inputs_of counters) stored
    ∙ get_or-map inputs_of counters a.counter no_counter in
    let same = numbered_is s r a.counter a.number named in
    grind (arith, inputs_are, same)
