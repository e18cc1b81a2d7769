-- What a caller keeps between two calls: a tally and rooms that hold a reached session, and work rooms of zeros.
use Rattle.std.specs.Prelude.{◌≡◌, List, ℕ}
use Rattle.paper.specs.Sizes.{narrow}
use Rattle.paper.specs.declared.Tally.{Tally}
use Rattle.paper.specs.Session.{Session, tally_of}
use Rattle.paper.specs.Runs.{Reached}
use Rattle.rooms.specs.Held.{Rooms, Held, Zeros}

pub record Kept (t : Tally) (rooms : Rooms) (values : List ℕ) (s : Session) : Type 0 where
  pub reached : Reached s
  pub counts : t ≡ tally_of s
  pub held : Held rooms s
  pub zeros : Zeros narrow values
