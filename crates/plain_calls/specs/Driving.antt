-- What is due, and what devices deliver, in terms of the service.
use Rattle.std.specs.Prelude.{◌≡◌, ◌==◌, ◌≤◌, ◌-◌, ◌*◌, ℕ, ℤ, true, false, List, [], ◌∷◌, slice_set, Option, Some, None, Result, Err, IfOk, IsOk, OnOk, OnErr}
use Rattle.std.specs.declared.alloc.AllocError.{AllocError}
use Rattle.input_types.specs.declared.message.Args.{Args}
use Rattle.input_types.specs.declared.message.Args.TheVariants.{Reset}
use Rattle.input_types.specs.DeviceRule.{device_of}
use Rattle.raw_events.specs.declared.event.RawEvent.{RawEvent}
use Rattle.device_reader.specs.TouchMapper.Cooking.{Cooking}
use Rattle.key_layout.specs.Layout.{Codes}
use Rattle.device_reader.specs.Cooked.{DevicePlan, Touches, Keys}
use Rattle.device_table.specs.Table.{StandsAt, is_there, reader_of}
use Rattle.dispatch_history.specs.Effect.{Effect}
use Rattle.dispatcher.specs.Memory.{MayCount}
use Rattle.live_input.specs.declared.refused.AddRefused.{AddRefused}
use Rattle.live_input.specs.declared.refused.AddRefused.TheVariants.{BadSlots}
use Rattle.live_input.specs.declared.refused.ArgsRefused.{ArgsRefused}
use Rattle.live_input.specs.declared.refused.ArgsRefused.TheVariants.{Inconsistent, Memory, NoDevice}
use Rattle.live_input.specs.Answers.{SameSeats}
use Rattle.live_input.specs.LimitedCalls.{ReportsChoked}
use Rattle.live_input.specs.Easing.{EasedFirst, IsCalm, KeepsReported}
use Rattle.live_input.specs.Giving.{Gives, GivesEvent, IsFed}
use Rattle.live_input.specs.Plugging.{Adds, is_slots}
use Rattle.live_input.specs.Room.{GivesAtOnce, HasRoom, most_args}
use Rattle.live_input.specs.Settling.{due_of, next_due, waits}
use Rattle.live_input.specs.Slots.{none_down}
use Rattle.live_input.specs.Standing.{IsMaskOfHeld, LiveIs}
use Rattle.live_input.specs.Stepwise.{StepsAll, StepsOrNot}
use Rattle.live_input.specs.declared.limit.Limited.{Limited}
use Rattle.live_input.specs.State.{latest}

-- the first moment at which something is due, which is the clock while something is to be eased or reported
pub record IsDue (s : Limited) (r : Option ℕ) : Type 0 where
  pub calm : (ds : List ℕ) (es : List Effect) → LiveIs ds es s.live → IsCalm es s → s.live.reported ≡ 0 → r ≡ due_of es s.live
  pub uneasy : (ds : List ℕ) (es : List Effect) → LiveIs ds es s.live → (IsCalm es s → ⊥) → r ≡ Some s.live.clock
  pub told : (s.live.reported ≡ 0 → ⊥) → r ≡ Some s.live.clock

-- what is due up to a time
pub record CaughtUp (now : ℕ) (old new : Limited) (r : Result ℕ AllocError) : Type 0 where
  pub ok :
      (ds : List ℕ) (es : List Effect) → LiveIs ds es old.live
      → IfOk r (λ mask. StepsAll ds (latest now old.live) es mask old new)
  pub err : (ds : List ℕ) (es : List Effect) → LiveIs ds es old.live → OnErr r (StepsOrNot ds (latest now old.live) es old new)
  pub reported : (ds : List ℕ) (es : List Effect) → LiveIs ds es old.live → IfOk r (λ mask. IsMaskOfHeld mask old.live.seats)
  pub none : OnOk r (new.live.pending ≡ [])
  pub still :
      (ds : List ℕ) (es : List Effect) → LiveIs ds es old.live → IsCalm es old → MayCount es → old.live.pending ≡ [] → next_due (latest now old.live) es ≡ None
      → IsOk r
  pub clock : new.live.clock ≡ latest now old.live
  pub devices : new.live.devices ≡ old.live.devices
  pub seats : SameSeats old.live new.live

-- the other devices are as they were
abbrev pub OthersStay : (device : ℕ) → (old new : Limited) → Type 0
OthersStay device old new =
    (d : ℕ) → 1 ≤ d → (d == device) ≡ false → reader_of new.live.devices d ≡ reader_of old.live.devices d

-- an event of a device
abbrev pub event : (now device kind code : ℕ) → ℤ → RawEvent
event now device kind code value = record { device = device; moment = now; kind = kind; code = code; value = value }

-- the result of an event of a device with this type, code and value
pub record Happened (now device kind code : ℕ) (value : ℤ) (old new : Limited) (r : Result (Unit {0}) ArgsRefused) : Type 0 where
  pub none : is_there old.live.devices device ≡ false → (r ≡ Err NoDevice) × (new ≡ old)
  pub after :
      (ds : List ℕ) (es : List Effect) (plan : DevicePlan) (past : List RawEvent) → LiveIs ds es old.live
      → StandsAt plan past device old.live.devices
      → EasedFirst ds (latest now old.live) es old new (r ≡ Err Memory)
      (λ fs eased. GivesEvent ds (latest now old.live) fs plan past (event (latest now old.live) device kind code value) r eased.live new.live
      × (new.wanted ≡ eased.wanted))
  pub fits :
      (ds : List ℕ) (es : List Effect) (plan : DevicePlan) (past : List RawEvent) → LiveIs ds es old.live
      → StandsAt plan past device old.live.devices → old.live.pending ≡ [] → IsFed plan past es → r ≡ Err Inconsistent → ⊥
  pub reserved :
      (n : ℕ) (ds : List ℕ) (es : List Effect) (plan : DevicePlan) (past : List RawEvent) → LiveIs ds es old.live → IsCalm es old
      → StandsAt plan past device old.live.devices → waits es old.live ≡ false
      → GivesAtOnce n es plan past (event (latest now old.live) device kind code value) r old.live new.live
  pub others : OthersStay device old new
  pub seats : SameSeats old.live new.live
  pub named : KeepsReported old.live.reported new.live.reported
  pub reports : (ds : List ℕ) (es : List Effect) → LiveIs ds es old.live → ReportsChoked old new

-- the result of args that are ready
pub record HandedIn (now : ℕ) (args : Args) (old new : Limited) (r : Result (Unit {0}) ArgsRefused) : Type 0 where
  pub none : is_there old.live.devices (device_of args) ≡ false → (r ≡ Err NoDevice) × (new ≡ old)
  pub after :
      (ds : List ℕ) (es : List Effect) → LiveIs ds es old.live → is_there old.live.devices (device_of args) ≡ true
      → EasedFirst ds (latest now old.live) es old new (r ≡ Err Memory)
      (λ fs eased. Gives ds (latest now old.live) fs (args ∷ []) (new.live.devices ≡ old.live.devices) r eased.live new.live
      × (new.wanted ≡ eased.wanted))
  pub devices : new.live.devices ≡ old.live.devices
  pub seats : SameSeats old.live new.live
  pub named : KeepsReported old.live.reported new.live.reported
  pub reports : (ds : List ℕ) (es : List Effect) → LiveIs ds es old.live → ReportsChoked old new

-- the result of making room for events
pub record Reserved (events : ℕ) (old new : Limited) (r : Result (Unit {0}) AllocError) : Type 0 where
  pub wanted : new.wanted ≡ old.wanted
  pub room : OnOk r (HasRoom (events * most_args) new.live)
  pub rest : new.live ≡ record old.live { dispatcher = new.live.dispatcher }
  pub stands : (ds : List ℕ) (es : List Effect) → LiveIs ds es old.live → LiveIs ds es new.live
  pub again : HasRoom (events * most_args) old.live → IsOk r
  pub err : OnErr r (new.live ≡ old.live)

-- the result of removing a device
pub record Removed (now device : ℕ) (old new : Limited) (r : Result (Unit {0}) ArgsRefused) : Type 0 where
  pub none : is_there old.live.devices device ≡ false → (r ≡ Err NoDevice) × (new ≡ old)
  pub after :
      (ds : List ℕ) (es : List Effect) → LiveIs ds es old.live → is_there old.live.devices device ≡ true
      → EasedFirst ds (latest now old.live) es old new (r ≡ Err Memory)
      (λ fs eased. Gives ds (latest now old.live) fs (Reset device ∷ []) (new.live.devices ≡ slice_set old.live.devices (device - 1) None)
      r eased.live new.live × (new.wanted ≡ eased.wanted))
  pub seats : SameSeats old.live new.live
  pub named : KeepsReported old.live.reported new.live.reported
  pub reports : (ds : List ℕ) (es : List Effect) → LiveIs ds es old.live → ReportsChoked old new

-- devices that are there stay as they are, and beside devices and the fingers on them nothing changes
pub record Beside (old new : Limited) : Type 0 where
  pub wanted : new.wanted ≡ old.wanted
  pub rest : new.live ≡ record old.live { devices = new.live.devices; fingers = new.live.fingers }
  pub others : (d : ℕ) → 1 ≤ d → is_there old.live.devices d ≡ true → reader_of new.live.devices d ≡ reader_of old.live.devices d
  pub stands : (ds : List ℕ) (es : List Effect) → LiveIs ds es old.live → LiveIs ds es new.live

-- the result of plugging in a touch device
pub record TouchAdded (display slots : ℕ) (cook : Cooking) (old new : Limited) (r : Result ℕ AddRefused) : Type 0 where
  pub wanted : new.wanted ≡ old.wanted
  pub bad : is_slots slots ≡ false → r ≡ Err BadSlots
  pub added :
      is_slots slots ≡ true → Adds (λ d. Touches (record { device = d; slots = slots; cook = cook })) display r old.live new.live
  pub fingers : IfOk r (λ d. new.live.fingers ≡ slice_set old.live.fingers (d - 1) (none_down slots))
  pub beside : Beside old new
  pub err : OnErr r (new.live ≡ old.live)

-- the result of plugging in a device with keys
pub record KeysAdded (display : ℕ) (layout : Codes) (old new : Limited) (r : Result ℕ AddRefused) : Type 0 where
  pub wanted : new.wanted ≡ old.wanted
  pub added : Adds (λ d. Keys (record { device = d; layout = layout })) display r old.live new.live
  pub fingers : IfOk r (λ d. new.live.fingers ≡ slice_set old.live.fingers (d - 1) (none_down 0))
  pub beside : Beside old new
  pub err : OnErr r (new.live ≡ old.live)
