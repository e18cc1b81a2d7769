-- What is kept by every accepted step holds of every session that steps have reached.
use mathlib.Core.Path.{◌≡◌}
use mathlib.Core.Bool.{true}
use mathlib.Core.List.{List, [], ◌∷◌}
use Rattle.paper.specs.Session.{Session, fresh}
use Rattle.paper.specs.Steps.{Step, accepted, effect, next}
use Rattle.paper.specs.Runs.{Entry, Runs, Reached}
use Rattle.paper.proofs.Tables.{next_accepted}
use Rattle.paper.proofs.Reach.{fresh_reached, next_reached}

-- A step may count on the session before it being reached too.
module _ (P : Session → Type 0) (begins : P fresh)
    (kept : (s : Session) (m : Step) → Reached s → accepted s m ≡ true → P s → P (effect s m)) where
  run_keeps : (s : Session) (es : List Entry) (s' : Session) → Reached s → P s → Runs s es s' → P s'
  run_keeps s [] s' r h run = rw run at h
  run_keeps s (e ∷ es) s' r h run =
      run_keeps (next s e.step) es s' (next_reached s e.step r)
      (rw (next_accepted s e.step run.0) (kept s e.step r run.0 h)) run.2

  pub reached_keeps : (s : Session) → Reached s → P s
  reached_keeps s r = run_keeps fresh r.0 s fresh_reached begins r.1
