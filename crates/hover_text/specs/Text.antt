-- What `hover` says about a session and a recording.
use Rattle.std.specs.Prelude.{◌≡◌, ℕ, ◌+◌, List, [], ◌∷◌, ◌++◌, reverse, Ok}
use Rattle.raw_events.specs.declared.event.RawEvent.{RawEvent}
use Rattle.raw_events.specs.Recording.{recorded}
use Rattle.session_plan.specs.Plan.{ChannelData, PlanData}
use Rattle.cursor_core.specs.declared.message.HoverMsg.{HoverMsg}
use Rattle.cursor_core.specs.Told.{stream}
use Rattle.hover_text.specs.Lines.{section_text}
use Rattle.hover_text.specs.Schedule.{calls_of}
use Rattle.hover_text.specs.Screen.{screen_of}

-- the sections of channels, the first of which has number `k`
abbrev pub sections_from : ℕ → List ChannelData → (ℕ → List HoverMsg) → List ℕ
sections_from k [] streams = []
sections_from k (c ∷ cs) streams = section_text k c.name (streams k) ++ sections_from (k + 1) cs streams

-- the text of a session for the events of a mouse, newest first: what the steps and the motions send to each channel
abbrev pub hovered_text : PlanData → List RawEvent → List ℕ
hovered_text plan past = sections_from 1 plan.channels (stream (screen_of plan) (calls_of plan.steps past))

-- This is the text of the hover run of a session with the recording of a mouse, which is device 1 and has this path.
abbrev pub IsHovered : PlanData → List ℕ → List ℕ → List ℕ → Type 0
IsHovered plan path bytes text = (events : List RawEvent) × (recorded ((path, 1) ∷ []) bytes ≡ Ok events) × (text ≡ hovered_text plan (reverse events))
