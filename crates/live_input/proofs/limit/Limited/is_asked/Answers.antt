-- The last request is compared with the one that is wanted.
use Rattle.std.proofs.Common.{ap, ap₂, ◌∙◌}
use Rattle.live_input.specs.Limit.{is_same}
use Rattle.live_input.specs.Showing.{channel_of}
use Rattle.live_input.proofs.limit.Limited.is_asked.Goals as goal

pub returns : goal.returns
returns c = λ ds es h.
    c.is_same.ensures ∙ ap₂ is_same (c.requested_on.ensures ds es h) (c.channel_of.ensures ∙ ap channel_of c.on-client.ensures)
