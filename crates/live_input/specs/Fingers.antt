-- Single fingers of a panel, as the events of its slots.
use Rattle.std.specs.Prelude.{ℕ, ℤ, pos, negsuc, ◌≡◌, ◌==◌, ◌≤◌, ◌+◌, ◌-◌, ◌%◌, ◌^◌, false, List, [], ◌∷◌, ◌++◌, length, map, slice_set, Some, None, Result, Ok, Err}
use Rattle.input_types.specs.declared.message.Args.{Args}
use Rattle.raw_events.specs.declared.event.RawEvent.{RawEvent}
use Rattle.device_reader.specs.Cooked.{DevicePlan, args_of}
use Rattle.device_table.specs.Table.{StandsAt, reader_of}
use Rattle.dispatch_history.specs.Effect.{Effect}
use Rattle.live_input.specs.declared.slots.Fingers.{Fingers}
use Rattle.live_input.specs.declared.strokes.Stroke.{Stroke}
use Rattle.live_input.specs.declared.refused.ArgsRefused.{ArgsRefused}
use Rattle.live_input.specs.declared.refused.ArgsRefused.TheVariants.{Memory}
use Rattle.live_input.specs.declared.refused.FingerRefused.{FingerRefused}
use Rattle.live_input.specs.declared.refused.FingerRefused.TheVariants.{IsDown, NotDown, TooMany, Device}
use Rattle.live_input.specs.Giving.{Gives}
use Rattle.live_input.specs.Room.{GoesAtOnce, HasRoom, MayCountMore}
use Rattle.live_input.specs.State.{LiveState}
use Rattle.live_input.specs.Slots.{first_free, slot_for, slot_of, slot_with, with_slot}
use Rattle.live_input.specs.Strokes.{report, said, slot_is, tool_is, tracking_is, x_is, y_is}

-- what is said of the device by a call, and which fingers are down after it
pub record Planned : Type 0 where
  pub strokes : List Stroke
  pub after : Fingers

-- a plan for the slot, if there is one
abbrev pub planned : (ℕ → Planned) → Result ℕ FingerRefused → Result Planned FingerRefused
planned plan (Err refused) = Err refused
planned plan (Ok s) = Ok (plan s)

-- A finger goes down in the first free slot, with the next tracking id. It is refused if one with its touch id is down, and
-- if no slot is free.
abbrev pub down : Fingers → (id x y : ℤ) → Result Planned FingerRefused
down f id x y =
    planned
    (λ s. record {
      strokes = slot_is s ∷ tracking_is (pos (f.count % 2 ^ 31)) ∷ tool_is 0 ∷ x_is x ∷ y_is y ∷ [];
      after = record { slots = slice_set f.slots s (Some id); usable = f.usable; count = (f.count + 1) % 2 ^ 31 };
    })
    (slot_for (slot_with id f) (first_free f))

-- A finger that is down moves. It is refused if none with its touch id is down.
abbrev pub moved : Fingers → (id x y : ℤ) → Result Planned FingerRefused
moved f id x y =
    planned (λ s. record { strokes = slot_is s ∷ x_is x ∷ y_is y ∷ []; after = f }) (slot_of (slot_with id f))

-- It goes up.
abbrev pub lifted : Fingers → (id : ℤ) → Result Planned FingerRefused
lifted f id =
    planned (λ s. record { strokes = slot_is s ∷ tracking_is (negsuc 0) ∷ []; after = with_slot f s None }) (slot_of (slot_with id f))

-- It is cancelled: it is a palm in the packet, which ends at once.
abbrev pub cancelled : Fingers → (id : ℤ) → Result Planned FingerRefused
cancelled f id =
    planned (λ s. record { strokes = slot_is s ∷ tool_is 2 ∷ report ∷ []; after = with_slot f s None }) (slot_of (slot_with id f))

-- the packet ends
abbrev pub framed : Fingers → Result Planned FingerRefused
framed f = Ok (record { strokes = report ∷ []; after = f })

-- what events give, one after another, to a reader after these events, newest first
abbrev pub given : DevicePlan → List RawEvent → List RawEvent → List Args
given plan past [] = []
given plan past (e ∷ later) = args_of plan past e ++ given plan (e ∷ past) later

-- the events so far, newest first, with these, oldest first
abbrev pub behind : List RawEvent → List RawEvent → List RawEvent
behind past [] = past
behind past (e ∷ later) = behind (e ∷ past) later

-- The reader of a device took these events, and what they give is queued behind what must still be handed in.
pub record Takes (plan : DevicePlan) (past events : List RawEvent) (device : ℕ) (old new : LiveState) : Type 0 where
  pub stands : StandsAt plan (behind past events) device new.devices
  pub pending_is : new.pending ≡ old.pending ++ given plan past events
  pub rest : new ≡ record old { devices = new.devices; pending = new.pending }

-- It took the first of them, but not all.
pub record TakesPart (plan : DevicePlan) (past events : List RawEvent) (device : ℕ) (old new : LiveState) : Type 0 where
  pub first : List RawEvent
  pub next : RawEvent
  pub later : List RawEvent
  pub events_are : events ≡ first ++ next ∷ later
  pub takes : Takes plan past first device old new

-- the clients are the same, and so are the terms
pub record SameHolders (old new : LiveState) : Type 0 where
  pub seats_are : new.seats ≡ old.seats
  pub opened_is : new.opened ≡ old.opened
  pub terms_are : new.terms ≡ old.terms

-- the readers of the other devices are as they were
abbrev pub OthersStay : (device : ℕ) → (old new : LiveState) → Type 0
OthersStay device old new = (d : ℕ) → 1 ≤ d → (d == device) ≡ false → reader_of new.devices d ≡ reader_of old.devices d

-- what a call answers of its device
abbrev pub of_device : Result (Unit {0}) FingerRefused → Result (Unit {0}) ArgsRefused
of_device (Ok done) = Ok done
of_device (Err (Device refused)) = Err refused
of_device (Err refused) = Err Memory

-- A call that is refused changes nothing. Otherwise the reader takes what it says as events, what they give is dispatched, and these
-- fingers are down then. If memory runs out, the reader has some of the events, which give nothing until the packet ends;
-- the fingers are as before, and the call can be made again.
abbrev pub TouchGoes :
    List ℕ → (now : ℕ) → List Effect → DevicePlan → List RawEvent → (device : ℕ) → Result Planned FingerRefused
    → Result (Unit {0}) FingerRefused → (old new : LiveState) → Type 0
TouchGoes displays now es plan past d (Err refused) result old new = (result ≡ Err refused) × (new ≡ old)
TouchGoes displays now es plan past d (Ok p) (Err (Device Memory)) old new = TakesPart plan past (map (said d now) p.strokes) d old new
TouchGoes displays now es plan past d (Ok p) (Err IsDown) old new = ⊥
TouchGoes displays now es plan past d (Ok p) (Err NotDown) old new = ⊥
TouchGoes displays now es plan past d (Ok p) (Err TooMany) old new = ⊥
TouchGoes displays now es plan past d (Ok p) result old new =
    Gives displays now es (given plan past (map (said d now) p.strokes))
    (StandsAt plan (behind past (map (said d now) p.strokes)) d new.devices × (new.fingers ≡ slice_set old.fingers (d - 1) p.after)) (of_device result) old new

-- If there is room for what a call gives, nothing of it waits, and it leaves room for n more args.
abbrev pub TouchGoesAtOnce :
    (n now : ℕ) → List Effect → DevicePlan → List RawEvent → (device : ℕ) → Result Planned FingerRefused → Result (Unit {0}) FingerRefused
    → (old new : LiveState) → Type 0
TouchGoesAtOnce n now es plan past d (Err refused) result old new = new ≡ old
TouchGoesAtOnce n now es plan past d (Ok p) result old new =
    let k = length (given plan past (map (said d now) p.strokes)) in
    HasRoom (k + n) old → MayCountMore (k + k) es → GoesAtOnce n (of_device result) new
