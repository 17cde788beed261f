-- Proved facts about single fingers of a panel.
use Rattle.std.specs.Prelude.{ℕ, ℤ, ◌≡◌, true, false, List, [], ◌∷◌, map, Ok}
use Rattle.raw_events.specs.declared.event.RawEvent.{RawEvent}
use Rattle.device_reader.specs.Cooked.{DevicePlan, TouchPlan, Touches, touch_args}
use Rattle.device_reader.specs.Packets.{since_drop}
use Rattle.raw_events.specs.Packets.{is_void}
use Rattle.dispatch_history.specs.Effect.{Effect}
use Rattle.live_input.specs.declared.slots.Fingers.{Fingers}
use Rattle.live_input.specs.declared.strokes.Stroke.{Stroke}
use Rattle.live_input.specs.Fingers.{Planned, TakesPart, behind, cancelled, down, given, lifted, moved}
use Rattle.live_input.specs.Giving.{IsFed, all_taken, notified}
use Rattle.live_input.specs.State.{LiveState}
use Rattle.live_input.specs.Strokes.{report, said}

-- What fingers do gives nothing until the packet ends.
abbrev pub QuietLaw : Type 0
QuietLaw =
    (plan : DevicePlan) (past : List RawEvent) (d now : ℕ) (f : Fingers) (id x y : ℤ) (p : Planned)
    → (down f id x y ≡ Ok p → given plan past (map (said d now) p.strokes) ≡ [])
    × (moved f id x y ≡ Ok p → given plan past (map (said d now) p.strokes) ≡ [])
    × (lifted f id ≡ Ok p → given plan past (map (said d now) p.strokes) ≡ [])

-- What a frame gives is what the reader makes of the packet: of all that was said since the packet before.
abbrev pub PacketLaw : Type 0
PacketLaw =
    (plan : TouchPlan) (past : List RawEvent) (d now : ℕ) (events : List RawEvent)
    → is_void (behind past events) ≡ false
    → given (Touches plan) (behind past events) (said d now report ∷ [])
    ≡ touch_args plan (since_drop (behind past events)) (said d now report)

-- if memory runs out among these, nothing was given
abbrev pub GivesNone : DevicePlan → List RawEvent → (device now : ℕ) → List Stroke → Type 0
GivesNone plan past d now strokes =
    (old new : LiveState) → TakesPart plan past (map (said d now) strokes) d old new → new.pending ≡ old.pending

-- If memory runs out in a call, nothing was given.
abbrev pub RefusedLaw : Type 0
RefusedLaw =
    (plan : DevicePlan) (past : List RawEvent) (d now : ℕ) (f : Fingers) (id x y : ℤ) (p : Planned)
    → (down f id x y ≡ Ok p → GivesNone plan past d now p.strokes)
    × (moved f id x y ≡ Ok p → GivesNone plan past d now p.strokes)
    × (lifted f id ≡ Ok p → GivesNone plan past d now p.strokes)
    × (cancelled f id ≡ Ok p → GivesNone plan past d now p.strokes)
    × GivesNone plan past d now (report ∷ [])

-- While a device's reader and the history agree on what is down, all that such events give is accepted, and then they
-- agree again.
abbrev pub FittingLaw : Type 0
FittingLaw =
    (displays : List ℕ) (now : ℕ) (es : List Effect) (plan : DevicePlan) (past events : List RawEvent) → IsFed plan past es
    → (all_taken displays now es (given plan past events) ≡ true)
    × IsFed plan (behind past events) (notified displays now es (given plan past events))
