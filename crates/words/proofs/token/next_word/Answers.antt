use Rattle.words.proofs.Splits.{not_leading}
use Rattle.words.proofs.token.next_word.Goals as goal

pub returns-in-Last : goal.returns-in-Last
returns-in-Last c word rest h = not_leading c.args.line.now c.args.at c.token_at.result word rest c.token_at.ensures c.in-Last.is h
