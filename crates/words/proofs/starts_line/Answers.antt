-- A place is the text's first, or the byte before it decides.
use Rattle.std.proofs.Common.{◌≡◌, ℕ, zero, suc, ◌-◌, List, eqb, get_or, refl, sub-one}
use Rattle.words.specs.Words.{starts_line}
use Rattle.words.proofs.starts_line.Goals as goal

at_front : (text : List ℕ) (at : ℕ) → at ≡ 0 → eqb at 0 ≡ starts_line text at
unfolding starts_line
at_front text at e = rw e

behind_front : (text : List ℕ) (at : ℕ) → (at ≡ 0 → ⊥) → eqb (get_or text (at - 1) 0) 10 ≡ starts_line text at
unfolding starts_line
behind_front text zero n = absurd (n refl)
behind_front text (suc at) n = rw sub-one

pub returns-then-at-eq0 : goal.returns-then-at-eq0
returns-then-at-eq0 c = at_front _ _ c.if-at-eq0.true

pub returns-else-at-eq0 : goal.returns-else-at-eq0
returns-else-at-eq0 c = behind_front _ _ c.if-at-eq0.false
