-- Single fingers of a panel, in terms of the service.
use Rattle.std.specs.Prelude.{◌≡◌, ℕ, false, List, Result, Err}
use Rattle.raw_events.specs.declared.event.RawEvent.{RawEvent}
use Rattle.device_reader.specs.Cooked.{DevicePlan}
use Rattle.device_table.specs.Table.{StandsAt, is_there}
use Rattle.dispatch_history.specs.Effect.{Effect}
use Rattle.live_input.specs.declared.slots.Fingers.{Fingers}
use Rattle.live_input.specs.declared.refused.ArgsRefused.TheVariants.{Memory, NoDevice}
use Rattle.live_input.specs.declared.refused.FingerRefused.{FingerRefused}
use Rattle.live_input.specs.declared.refused.FingerRefused.TheVariants.{Device}
use Rattle.live_input.specs.declared.limit.Limited.{Limited}
use Rattle.live_input.specs.Easing.{EasedFirst, IsCalm, KeepsReported, at_clock}
use Rattle.live_input.specs.Fingers.{Planned, SameHolders, TouchGoes, TouchGoesAtOnce}
use Rattle.live_input.specs.LimitedCalls.{ReportsChoked}
use Rattle.live_input.specs.Settling.{waits}
use Rattle.live_input.specs.Slots.{fingers_of}
use Rattle.live_input.specs.Standing.{LiveIs}
use Rattle.live_input.specs.State.{latest}
use Rattle.plain_calls.specs.Calling.{Reads, Replies}
use Rattle.plain_calls.specs.Driving.{OthersStay}
use Rattle.plain_calls.specs.Numbers.{device_of, moment_of}
use Rattle.plain_calls.specs.Replies.{finger_status}

-- the result of what a finger does, or of a frame, by its plan
pub record Touched
    (now device : ℕ) (plan_of : Fingers → Result Planned FingerRefused) (old new : Limited) (r : Result (Unit {0}) FingerRefused) : Type 0 where
  pub none : is_there old.live.devices device ≡ false → (r ≡ Err (Device NoDevice)) × (new ≡ old)
  pub after :
      (ds : List ℕ) (es : List Effect) (plan : DevicePlan) (past : List RawEvent) → LiveIs ds es old.live
      → StandsAt plan past device old.live.devices
      → EasedFirst ds (latest now old.live) es old new (r ≡ Err (Device Memory))
      (λ fs eased. TouchGoes ds (latest now old.live) fs plan past device (plan_of (fingers_of old.live.fingers device)) r eased.live new.live
      × (new.wanted ≡ eased.wanted))
  pub reserved :
      (n : ℕ) (ds : List ℕ) (es : List Effect) (plan : DevicePlan) (past : List RawEvent) → LiveIs ds es old.live → IsCalm es old
      → StandsAt plan past device old.live.devices → waits es old.live ≡ false
      → TouchGoesAtOnce n (latest now old.live) es plan past device (plan_of (fingers_of old.live.fingers device)) r
      (at_clock (latest now old.live) old).live new.live
  pub others : OthersStay device old new
  pub seats : SameHolders old.live new.live
  pub named : KeepsReported old.live.reported new.live.reported
  pub reports : (ds : List ℕ) (es : List Effect) → LiveIs ds es old.live → ReportsChoked old new

-- The same in plain numbers: one out of its range is reported, and nothing changes.
abbrev pub TouchReads : (now_us device : ℕ) → (plan_of : Fingers → Result Planned FingerRefused) → (status : ℕ) → (old new : Limited) → Type 0
TouchReads now_us device plan_of status old new =
    Reads (moment_of now_us) status (new ≡ old)
    (λ now. Reads (device_of device) status (new ≡ old)
    (λ d. Replies finger_status status (Touched now d plan_of old new)))
