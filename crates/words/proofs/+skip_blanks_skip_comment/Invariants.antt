-- Fewer bytes are left with each turn of a loop and with each hand-over, and from the place on as much is passed as from the start.
use Rattle.std.proofs.Common.{◌≡◌, ◌-◌, ◌≤◌, length}
use Rattle.words.proofs.Gaps.{past_blanks, past_comment}
use Rattle.words.proofs.+skip_blanks_skip_comment.Given as goal

abbrev pub decreases-skip_blanks : goal.decreases-skip_blanks
decreases-skip_blanks l = length l.text.now - l.at

abbrev pub decreases-skip_comment : goal.decreases-skip_comment
decreases-skip_comment l = length l.text.now - l.at

abbrev pub invariant-skip_blanks-loop-place : goal.invariant-skip_blanks-loop-place
invariant-skip_blanks-loop-place l = record { onward : l.at ≤ l.place; same : past_blanks l.text l.at ≡ past_blanks l.text l.place }

abbrev pub decreases-skip_blanks-loop-place : goal.decreases-skip_blanks-loop-place
decreases-skip_blanks-loop-place l = length l.text - l.place

abbrev pub invariant-skip_comment-loop-place : goal.invariant-skip_comment-loop-place
invariant-skip_comment-loop-place l = record { onward : l.at ≤ l.place; same : past_comment l.text l.at ≡ past_comment l.text l.place }

abbrev pub decreases-skip_comment-loop-place : goal.decreases-skip_comment-loop-place
decreases-skip_comment-loop-place l = length l.text - l.place
