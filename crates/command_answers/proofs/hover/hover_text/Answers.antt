-- What is written after all events.
use Rattle.std.proofs.Common.{◌∙◌, List, ◌++◌, Ok, ap, sym, reverse, []}
use Rattle.std.proofs.lemmas.List.{append-nil}
use Rattle.raw_events.specs.declared.event.RawEvent.{RawEvent}
use Rattle.hover_text.specs.Text.{hovered_text}
use Rattle.session_plan.specs.View.{plan_view}
use Rattle.command_answers.proofs.hover.hover_text.Goals as goal

pub returns : goal.returns
returns c =
    let plan = plan_view c.args.session.now in
    let past : List RawEvent = reverse c.args.events.now in
    ap Ok
    (sym
    (c.of.ensures
    ∙ c.in_ok-text.ensures (past ++ []) (c.in_ok-take_all.ensures.ok [] c.in_ok-hover.ensures)
    ∙ ap (hovered_text plan) (append-nil past)))
