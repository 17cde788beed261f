-- A workload that is being made, and the events that are left of it.
use Rattle.std.specs.Prelude.{ℕ, ◌+◌, ◌≤◌, ◌<◌, List, ◌∷◌, ◌++◌}
use Rattle.raw_events.specs.declared.event.RawEvent.{RawEvent}
use Rattle.workload_maker.specs.declared.stage.Stage.{Stage}
use Rattle.workload_maker.specs.declared.stage.Stage.TheVariants.{Slot, Contact, Column, Row, Report}
use Rattle.workload_maker.specs.Numbers.{drawn_after}
use Rattle.workload_maker.specs.Events.{Fingers, packets, slot_events, after_slot, place_events, placed, y_event, drawn, report_event}

-- how many fingers there are; the fingers now; what the next event says; the slot and the moment of the packet that is being made; how
-- many packets were begun, and how many were not
pub record Making : Type 0 where
  pub fingers : ℕ
  pub now : Fingers
  pub stage : Stage
  pub slot : ℕ
  pub at : ℕ
  pub begun : ℕ
  pub left : ℕ

-- the end of the packet that is being made, and the packets after it, from these fingers on
abbrev pub report_and_later : Making → Fingers → List RawEvent
report_and_later m f = report_event m.at ∷ packets m.fingers m.left m.begun f

-- the events that are left from a stage on
abbrev pub from_stage : Stage → Making → List RawEvent
from_stage Slot m = packets m.fingers m.left m.begun m.now
from_stage Contact m = slot_events m.at m.slot m.now ++ report_and_later m (after_slot m.slot m.now)
from_stage Column m = place_events m.at m.now.number ++ report_and_later m (placed m.now)
from_stage Row m = y_event m.at (drawn_after m.now.number) ∷ report_and_later m (drawn m.now)
from_stage Report m = report_and_later m m.now

-- the events that are left
abbrev pub left_of : Making → List RawEvent
left_of m = from_stage m.stage m

-- the same packet at another stage, with these fingers
abbrev pub at_stage : Stage → Fingers → Making → Making
at_stage stage f m = record { fingers = m.fingers; now = f; stage = stage; slot = m.slot; at = m.at; begun = m.begun; left = m.left }

-- how many contacts the stage may still make
abbrev pub may_make : Stage → ℕ
may_make Contact = 1
may_make _ = 0

-- 1 to 16 fingers, a slot below 16, at most 200,000 packets, and no more contacts than packets
pub record IsMaking (m : Making) : Type 0 where
  pub some_finger : 1 ≤ m.fingers
  pub few_fingers : m.fingers ≤ 16
  pub slot : m.slot < 16
  pub packets : m.begun + m.left ≤ 200000
  pub contacts : m.now.contacts + may_make m.stage ≤ m.begun
