-- Where the two searches come to is the next word.
use Rattle.words.proofs.NextWords.{no_word, next_word}
use Rattle.words.proofs.next_word.Goals as goal

pub returns-then-text-start : goal.returns-then-text-start
returns-then-text-start c = no_word c.args.text.now c.args.at _ c.skip_blanks-start.ensures c.if-text-start.true

pub returns : goal.returns
returns c =
    next_word c.args.text.now c.args.at _ c.skip_blanks-start.ensures _ c.word_end-end.ensures c.if-text-start.false
