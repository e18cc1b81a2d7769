-- The search stops where the test holds first.
use Rattle.std.proofs.Common.{rules}
use Rattle.std.proofs.lemmas.Iterator.{YieldsList-from_slice}
use Rattle.std.proofs.lemmas.Iterator.Search.{position_from_yields_List}
use Rattle.words.proofs.Fronts.{or_length}
use Rattle.words.proofs.first_stop.Goals as goal

pub returns : goal.returns
returns g c stop is =
    let rest = c.rest_of-rest.result.now in
    let found = position_from_yields_List stop _ _ c.position.result c.position.ensures.ran (YieldsList-from_slice rest c.iter.ensures.rest)
    (λ x b q k. search (rules, is)) in
    rw (c.unwrap_or.ensures, found, or_length stop rest, c.rest_of-rest.ensures)
