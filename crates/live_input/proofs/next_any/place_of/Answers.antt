-- The step of a message that waits is kept.
use Rattle.std.proofs.Common.{sym, ap, ap₂, ◌∙◌}
use Rattle.std.specs.Option.{option_copied}
use Rattle.live_input.proofs.Ordering.{place_at, placed_some}
use Rattle.live_input.proofs.next_any.place_of.Goals as goal

pub returns-in-Some : goal.returns-in-Some
returns-in-Some c = λ es r.
    let got_is = sym (c.next.ensures es r.stands) ∙ ap option_copied c.in-Some.is in
    ap₂ place_at c.of.ensures c.rank.ensures
    ∙ sym (placed_some es c.args.dispatcher.now c.args.steps.now c.args.channel c.in-Some.message.now r c.requires got_is)
