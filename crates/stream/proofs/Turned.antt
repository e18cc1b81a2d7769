-- A turn by what a block says: the place, the session and the bytes behind the records that it has whole.
use mathlib.Core.Path.{◌≡◌, refl, sym, ap, ◌∙◌, subst}
use mathlib.Core.Bool.{Bool}
use mathlib.Core.List.{List, [], ◌++◌}
use Prim.Native.Nat.{ℕ, zero, suc, ◌+◌, ◌≤◌}
use native.Mathlib.Omega.{arith}
use lib.ListN.{length, drop, length-drop}
use lib.Seq.{take-length}
use Rattle.std.proofs.Common.{append-nil}
use Rattle.paper.specs.declared.Front.{Front}
use Rattle.paper.specs.declared.Front.TheVariants.{Short, Wrong, Whole}
use Rattle.paper.specs.declared.Tally.{Tally}
use Rattle.paper.specs.Session.{Session}
use Rattle.paper.specs.Inputs.{front, records_in, bytes_of, after}
use Rattle.paper.proofs.Inputs.{stands, payload_long, none_at}
use Rattle.rooms.specs.Held.{Rooms}
use Rattle.rooms.specs.Kept.{Kept}
use Rattle.blocks.specs.Blocks.{most_records, taken_from, progress_of}
use Rattle.blocks.specs.declared.Progress.{Progress}
use Rattle.turns.specs.Turns.{waiting, Within, Begins, onward}
use Rattle.turns.specs.declared.State.{State}
use Rattle.turns.proofs.Waiting.{onward_within, onward_waits}
use Rattle.stream.specs.Taken.{taken, unanswered}

-- Records take no more bytes than there are.
records_fit : (most : ℕ) (bytes : List ℕ) → bytes_of (records_in most bytes) ≤ length bytes
records_fit zero bytes = omega arith
records_fit (suc most) bytes = go (front bytes) refl (records_fit most)
  where
    go : (x : Front) → front bytes ≡ x → ((left : List ℕ) → bytes_of (records_in most left) ≤ length left)
        → bytes_of (records_in (suc most) bytes) ≤ length bytes
    go Short f more = rw (none_at (suc most) bytes Short f refl) (omega arith)
    go Wrong f more = rw (none_at (suc most) bytes Wrong f refl) (omega arith)
    go (Whole n) f more =
        let w = stands bytes n f in
        rw f (omega (arith, payload_long bytes n w, w.least, w.long, more (drop (4 + n) bytes), length-drop (4 + n) bytes))

-- Bytes begin with themselves.
pub begins_same : (bytes first : List ℕ) → bytes ≡ first → Begins bytes first
begins_same bytes first e = subst (λ (x : List ℕ). Begins x first) (sym e) (take-length first)

module _ (state : State) (input block : List ℕ) (e : block ≡ waiting state input) (s : Session) (done : Progress)
    (d : done ≡ progress_of state.last state.place s block (taken_from state.place block)) where
  pub turned : {rooms : Rooms} {values : List ℕ} → Kept done.tally rooms values (after s (taken_from state.place block))
      → (t : Tally) (place : ℕ) → t ≡ done.tally → place ≡ done.place
      → (place ≡ state.place + length (taken state input)) × Kept t rooms values (after s (taken state input))
  turned {rooms} {values} k t place counts stands = (
    stands ∙ ap (λ (p : Progress). p.place) d ∙ ap (λ (b : List ℕ). state.place + length (taken_from state.place b)) e,
    subst (λ (b : List ℕ). Kept t rooms values (after s (taken_from state.place b))) e
        (subst (λ (x : Tally). Kept x rooms values (after s (taken_from state.place block))) (sym counts) k),
  )

  -- The same of what a block leads to.
  pub turned_on : {rooms : Rooms} {values : List ℕ} → Kept done.tally rooms values (after s (taken_from state.place block))
      → (next : State) (written : Bool) → next ≡ onward state done written
      → (next.place ≡ state.place + length (taken state input)) × Kept next.tally rooms values (after s (taken state input))
  turned_on k next written f = turned k next.tally next.place (ap (λ (x : State). x.tally) f) (ap (λ (x : State). x.place) f)

  took : done.consumed ≡ bytes_of (taken state input)
  took = ap (λ (p : Progress). p.consumed) d ∙ ap (λ (b : List ℕ). bytes_of (taken_from state.place b)) e

  fewer : done.consumed ≤ length (waiting state input)
  fewer = omega (arith, took, records_fit (most_records state.place) (waiting state input))

  -- Without a read, what is left of the block waits.
  pub left_waiting : Within state (length input) → (next : State) (written : Bool) → next ≡ onward state done written
      → Within next (length input) × (waiting next input ≡ unanswered state input)
  left_waiting w next written f = (
    subst (λ (x : State). Within x (length input)) (sym f) (onward_within state input w done written fewer),
    ap (λ (x : State). waiting x input) f
        ∙ onward_waits state input w done written fewer
        ∙ ap (λ (n : ℕ). drop n (waiting state input)) took,
  )

  pub left_begins : Within state (length input) → (next : State) (written : Bool) → next ≡ onward state done written
      → Within next (length input) × Begins (waiting next input) (unanswered state input)
  left_begins w next written f = let left = left_waiting w next written f in (left.0, begins_same _ _ left.1)

  -- Nothing was read, and nothing stands behind what was left.
  pub left_alone : Within state (length input) → (next : State) (written : Bool) → next ≡ onward state done written
      → (next.unread ≡ state.unread) × (waiting next input ≡ unanswered state input ++ [])
  left_alone w next written f = (
    ap (λ (x : State). x.unread) f,
    (left_waiting w next written f).1 ∙ sym (append-nil (unanswered state input)),
  )
