-- The bytes that no record has taken yet: what records take of them goes from their front, and what is read goes behind them.
use mathlib.Core.Path.{◌≡◌, sym, ap, ◌∙◌}
use mathlib.Core.Bool.{Bool}
use mathlib.Core.List.{List, ◌++◌}
use Prim.Native.Nat.{ℕ, ◌+◌, ◌-◌, ◌≤◌}
use native.Mathlib.Omega.{arith}
use lib.ListN.{length, take, drop, length-drop}
use lib.Seq.{length-take-le, drop-drop, take-add, drop_at}
use borrow.Author.Tests.{le-ltb}
use Rattle.slices.specs.Slices.{part_of}
use Rattle.slices.proofs.Parts.{part_is}
use Rattle.blocks.specs.declared.Progress.{Progress}
use Rattle.turns.specs.Turns.{waiting, Within, onward}
use Rattle.turns.specs.declared.State.{State}

module _ (state : State) (input : List ℕ) (w : Within state (length input)) where
  waiting_is : waiting state input ≡ take (state.end - state.start) (drop state.start input)
  waiting_is = part_is input state.start state.end w.up w.fits

  pub waiting_long : length (waiting state input) ≡ state.end - state.start
  waiting_long =
      let size : state.end - state.start ≤ length (drop state.start input) = omega (arith, length-drop state.start input, w.fits) in
      ap length waiting_is ∙ length-take-le (state.end - state.start) (drop state.start input) size

  -- What records take goes from the front.
  module _ (done : Progress) (written : Bool) (some : done.consumed ≤ length (waiting state input)) where
    abbrev next : State
    next = onward state done written

    starts : next.start ≡ state.start + done.consumed
    starts =
        let fewer : done.consumed ≤ state.end - state.start = omega (arith, some, waiting_long) in
        rw (le-ltb state.end state.start w.up, le-ltb (state.end - state.start) done.consumed fewer)

    pub onward_within : Within next (length input)
    onward_within = record { up = omega (arith, starts, some, waiting_long, w.up); fits = w.fits }

    pub onward_waits : waiting next input ≡ drop done.consumed (waiting state input)
    onward_waits =
        let n = done.consumed in
        let rest = drop state.start input in
        let m = state.end - (state.start + n) in
        let all : n + m ≡ state.end - state.start = omega (arith, some, waiting_long, w.up) in
        let long : length (take n rest) ≡ n = length-take-le n rest (omega (arith, some, waiting_long, w.up, w.fits, length-drop state.start input)) in
        part_is input next.start state.end onward_within.up w.fits
        ∙ ap (λ (k : ℕ). take (state.end - k) (drop k input)) starts
        ∙ ap (take m) (sym (drop-drop n state.start input))
        ∙ sym (drop_at (take n rest) (take m (drop n rest)) n long)
        ∙ ap (drop n) (sym (take-add n m rest) ∙ ap (λ (k : ℕ). take k rest) all ∙ sym waiting_is)

-- Where what was left stands at the front, what was read stands behind it.
pub refilled : (before after : List ℕ) (start end filled got : ℕ) → filled ≡ (end - start) + got → filled ≤ length after
    → take (end - start) after ≡ part_of before start end
    → part_of after 0 filled ≡ part_of before start end ++ take got (drop (end - start) after)
refilled before after start end filled got sum fits kept =
    let all : filled - 0 ≡ (end - start) + got = omega arith in
    part_is after 0 filled (omega arith) fits ∙ rw (all, take-add, kept)
