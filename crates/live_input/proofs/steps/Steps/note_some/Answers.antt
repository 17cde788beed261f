-- A number that is no channel has nothing to record.
use Rattle.std.proofs.Common.{sym, ◌∙◌}
use Rattle.std.proofs.lemmas.Bool.{true≢false}
use Rattle.live_input.proofs.Noting.{channel_is, notes_still}
use Rattle.live_input.proofs.steps.Steps.note_some.Goals as goal

pub returns-else-is_channel : goal.returns-else-is_channel
returns-else-is_channel c = λ es after.
    notes_still es c.args.channel c.args.self.now
    (λ low high. absurd (true≢false (sym (channel_is c.args.channel low high) ∙ sym c.is_channel.ensures ∙ c.if-is_channel.false)))
