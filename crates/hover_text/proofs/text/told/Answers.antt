-- If nothing was released, what remains is the whole stream.
use Rattle.cursor_core.specs.Kept.{gone}
use Rattle.hover_text.proofs.Sections.{none_sent, sent_whole}
use Rattle.hover_text.proofs.text.told.Goals as goal

pub returns-in-Some : goal.returns-in-Some
returns-in-Some c = λ d calls s low high.
    sent_whole d calls c.args.channel (gone c.args.cursor.now c.args.channel) c.in-Some.messages.now low high (c.requires c.args.channel) (c.in-Some.ensures d calls s)

pub returns-in-None : goal.returns-in-None
returns-in-None c = λ d calls s low high.
    absurd (none_sent d calls c.args.channel (gone c.args.cursor.now c.args.channel) low high (c.in-None.ensures d calls s))
