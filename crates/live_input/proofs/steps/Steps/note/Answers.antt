-- What the dispatcher counts as published is recorded.
use Rattle.std.proofs.Common.{◌-◌, max, [], slice_index_or, refl, sym, ap, ◌∙◌, arith}
use Rattle.live_input.specs.declared.steps.Recent.{Recent}
use Rattle.live_input.proofs.Noting.{channel_in, counts_none, counts_published, notes_one, notes_still}
use Rattle.live_input.proofs.steps.Steps.note.Goals as goal

pub returns-in-Some : goal.returns-in-Some
returns-in-Some c = λ es after.
    let in_range = channel_in c.args.channel c.requires in
    let count = counts_published es c.args.channel c.in-Some.counts (sym c.in-Some.is ∙ c.counts.ensures es after) in
    let none : Recent = record { published = 0; steps = [] } in
    notes_one es c.args.channel c.args.self.now _ none c.publish.new.self in_range.0 in_range.1 refl
    (c.publish.ensures.published ∙ ap (λ n. max (slice_index_or c.args.self.now.channels (c.args.channel - 1) none).published n) count)
    c.publish.ensures.steps

pub returns-in_default : goal.returns-in_default
returns-in_default c = λ es after.
    let in_range = channel_in c.args.channel c.requires in
    let none = counts_none c.args.dispatcher.now.displays es c.args.channel after.lawful in_range.0 (sym c.in_default.is ∙ c.counts.ensures es after) in
    notes_still es c.args.channel c.args.self.now (λ low high. omega (arith, none))
