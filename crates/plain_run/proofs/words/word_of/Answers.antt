use Rattle.std.proofs.Common.{◌∙◌}
use Rattle.plain_run.proofs.ReadWords.{no_word, text_word}
use Rattle.plain_run.proofs.words.word_of.Goals as goal

pub returns-in-Ok : goal.returns-in-Ok
returns-in-Ok c = c.in-Ok.ensures.cases.0 ∙ text_word _ c.in-Ok.ensures.cases.1

pub returns-in-Err : goal.returns-in-Err
returns-in-Err c = no_word _ c.in-Err.ensures.cases.0
