-- What holds of the calls of a session and a mouse. Lists of calls and of events are newest first.
use Rattle.std.specs.Prelude.{◌≡◌, nat_eq, nat_lt, Bool, true, not, ◌&&◌, ◌||◌, List, [], ◌∷◌, ◌++◌, filter}
use Rattle.std.specs.List.{list_all}
use Rattle.std.specs.Option.{option_to_list}
use Rattle.raw_events.specs.declared.event.RawEvent.{RawEvent}
use Rattle.session_plan.specs.declared.plan.Plan.{Plan}
use Rattle.session_plan.specs.declared.plan.Step.{Step}
use Rattle.session_plan.specs.Valid.{IsPlan}
use Rattle.session_plan.specs.View.{plan_view}
use Rattle.cursor_core.specs.declared.call.CursorCall.{CursorCall}
use Rattle.cursor_core.specs.Calls.{is_motion, moment_of}
use Rattle.cursor_core.specs.Packets.{motion_of}
use Rattle.hover_text.specs.Schedule.{calls_of, step_calls}

-- a call may come after another if it is later, or at the same moment unless it is a step's and the other a motion
abbrev pub may_follow : (later earlier : CursorCall) → Bool
may_follow later earlier =
    nat_lt (moment_of earlier) (moment_of later) || nat_eq (moment_of earlier) (moment_of later) && (is_motion later || not (is_motion earlier))

-- each of these calls may come after every one before it
abbrev pub are_in_order : List CursorCall → Bool
are_in_order [] = true
are_in_order (c ∷ cs) = list_all (may_follow c) cs && are_in_order cs

-- the motions of the packets of these events
abbrev pub mouse_motions : List RawEvent → List CursorCall
mouse_motions [] = []
mouse_motions (e ∷ past) = option_to_list (motion_of past e) ++ mouse_motions past

-- The calls of a session and a mouse are in order, whatever the moments of its events.
abbrev pub CallOrderLaw : Type 0
CallOrderLaw = (plan : Plan) (past : List RawEvent) → IsPlan plan → are_in_order (calls_of (plan_view plan).steps past) ≡ true

-- Without the motions they are the calls of the steps, and the motions are those of the packets, each kind in its own order.
abbrev pub BothKindsLaw : Type 0
BothKindsLaw =
    (steps : List Step) (past : List RawEvent)
    → (filter (λ c. not (is_motion c)) (calls_of steps past) ≡ step_calls steps) × (filter is_motion (calls_of steps past) ≡ mouse_motions past)
