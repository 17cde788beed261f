use Rattle.std.proofs.Common.{◌++◌, List, reverse, take}
use Rattle.raw_events.specs.declared.event.RawEvent.{RawEvent as Event}
use Rattle.session_plan.specs.View.{plan_view}
use Rattle.hover_text.specs.Running.{RunStandsFor}
use Rattle.hover_text.proofs.hover.Hover.take_all.Given as goal

-- it stands for the events that were taken
abbrev pub invariant-loop-event : goal.invariant-loop-event
invariant-loop-event l =
    (past : List Event) → RunStandsFor (plan_view l.plan) past l.initial.self
    → RunStandsFor (plan_view l.plan) (reverse (take l.event-index l.events) ++ past) l.self
