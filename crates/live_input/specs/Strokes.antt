-- What a panel of slots says of a finger.
use Rattle.std.specs.Prelude.{ℕ, ℤ, pos}
use Rattle.raw_events.specs.declared.event.RawEvent.{RawEvent}
use Rattle.live_input.specs.declared.strokes.Stroke.{Stroke}

-- what follows is about this slot
abbrev pub slot_is : ℕ → Stroke
slot_is s = record { kind = 3; code = 47; value = pos s }

-- a contact with this tracking id begins in it; a negative one ends it
abbrev pub tracking_is : ℤ → Stroke
tracking_is t = record { kind = 3; code = 57; value = t }

-- it is of this tool: 0 is a finger, 2 a palm
abbrev pub tool_is : ℕ → Stroke
tool_is tool = record { kind = 3; code = 55; value = pos tool }

-- it has this x
abbrev pub x_is : ℤ → Stroke
x_is x = record { kind = 3; code = 53; value = x }

-- it has this y
abbrev pub y_is : ℤ → Stroke
y_is y = record { kind = 3; code = 54; value = y }

-- the packet ends
abbrev pub report : Stroke
report = record { kind = 0; code = 0; value = pos 0 }

-- what is said of a device at a moment, as an event
abbrev pub said : (device now : ℕ) → Stroke → RawEvent
said d now k = record { device = d; moment = now; kind = k.kind; code = k.code; value = k.value }
