-- The sections, and then the ANRs.
use Rattle.std.proofs.Common.{◌≡◌, ◌∙◌, ◌++◌, ℕ, List, ap, map}
use Rattle.dispatch_history.specs.Due.{anrs}
use Rattle.schedule.specs.declared.keeping.Lines.TheVariants.{Kept}
use Rattle.session_plan.specs.View.{channel_view}
use Rattle.stream_text.specs.StreamsHistory.{anr_lines, sections_of}
use Rattle.command_answers.proofs.texts.text_of.Goals as goal

pub returns : goal.returns
returns c = λ plan es has opened many.
    let sections = sections_of 1 (map (λ d. d.name) (map channel_view c.args.channels.now)) es in
    let lines : c.add_all_anrs.new.text.items ≡ anr_lines (anrs es) =
    c.in_ok-add_all_anrs.ensures.ok
    ∙ ap (λ (xs : List ℕ). xs ++ anr_lines c.anrs.result.now) c.new-anrs.ensures.items
    ∙ ap anr_lines (c.anrs.ensures Kept plan es has) in
    c.in_ok-push.ensures.ok
    ∙ ap (λ (xs : List ℕ). c.add_sections.new.text ++ xs) lines
    ∙ ap (λ (xs : List ℕ). xs ++ anr_lines (anrs es))
    (c.in_ok-add_sections.ensures plan es has opened many ∙ ap (λ (xs : List ℕ). xs ++ sections) c.new-text.ensures)
