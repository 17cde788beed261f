-- A line counts for what it is.
use Rattle.std.specs.Prelude.{ℕ, ◌∷◌}
use Rattle.std.proofs.Common.{sym, ◌∙◌, ap, refl, ne_eqb}
use Rattle.raw_events.specs.Line.{known}
use Rattle.recording_counts.proofs.LineSteps.{blank_more, other_more, event_ok}
use Rattle.recording_counts.proofs.lines.count_line.Goals as goal

pub returns-in_default : goal.returns-in_default
returns-in_default c = λ past h.
    blank_more (known c.args.devices.now) past c.args.line.now c.args.counts.now _ h (sym c.text_of.ensures ∙ c.in_default.ensures)
    c.risen_if-counts.ensures c.risen_if-counts-in_default.ensures refl refl refl refl

pub returns-then-first-eq91 : goal.returns-then-first-eq91
returns-then-first-eq91 c = λ past h.
    event_ok (known c.args.devices.now) past c.args.line.now c.args.counts.now c.count_event.new.counts c.count_event.result h c.in-Some.text.now
    (sym c.text_of.ensures ∙ c.in-Some.ensures ∙ ap (λ (n : ℕ). n ∷ c.in-Some.text.now) c.if-first-eq91.true)
    (c.count_event.ensures.lines ∙ c.risen_if-counts.ensures) c.count_event.ensures.blank c.count_event.ensures.other c.count_event.ensures.marked c.count_event.ensures.unknown c.count_event.ensures.paths

pub returns : goal.returns
returns c = λ past h.
    other_more (known c.args.devices.now) past c.args.line.now c.args.counts.now _ h c.in-Some.first c.in-Some.text.now
    (sym c.text_of.ensures ∙ c.in-Some.ensures) (ne_eqb c.in-Some.first 91 c.if-first-eq91.false)
    c.risen_if-counts.ensures refl c.risen_if-counts-2.ensures refl c.marked_at-counts.ensures refl
