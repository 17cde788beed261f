-- A dispatcher after a Move that bypassed the channels.
use Rattle.std.specs.Prelude.{◌≡◌, ◌≤◌, ◌+◌, ℕ, true, if◌then◌else◌, List, ◌∷◌, length}
use Rattle.input_types.specs.DeviceRule.{device_of}
use Rattle.input_types.specs.declared.message.Args.{Args}
use Rattle.input_types.specs.declared.message.Message.{Message}
use Rattle.dispatcher.specs.InputChannel.Moves.{moves_from}
use Rattle.routing_rules.specs.Cover.{flags_of}
use Rattle.window_snapshot.specs.Mask.{mask_has}
use Rattle.dispatcher.specs.WindowCovers.Covers.{cover_in}
use Rattle.dispatcher.specs.CancelSynthesis.Tracked.{pointers_of}
use Rattle.dispatch_calls.specs.declared.call.Call.TheVariants.{Notify, Pump}
use Rattle.dispatcher.specs.DispatchChannels.Table.{input_of}
use Rattle.dispatch_history.specs.Effect.{Effect, past_of, stream}
use Rattle.dispatch_history.specs.History.{origin, clock}
use Rattle.dispatch_history.specs.Legal.{answered}
use Rattle.dispatcher.specs.Access.{gone, anrs_released}
use Rattle.dispatcher.specs.Answered.{StepsOn}
use Rattle.dispatcher.specs.Dispatching.{Dispatching, IsAfter}

-- the message of a Move that a channel was sent last, made from what is kept of its window
abbrev pub last_moved : List Effect → (device : ℕ) → Dispatching → (c : ℕ) → Message
last_moved es device d c =
    record {
      seq = gone d c;
      moment = clock (past_of es);
      body = moves_from (origin (past_of es) c) device (flags_of (cover_in d.covers c device)) (pointers_of (input_of d.channels c) device);
    }

-- after these effects each channel of a mask was sent one message more, which is released like all before it; no other was sent anything
pub record SentLast (es later : List Effect) (device sent : ℕ) (old new : Dispatching) : Type 0 where
  pub streams_are :
      (c : ℕ) → 1 ≤ c → stream later c ≡ (if mask_has sent c then last_moved later device new c ∷ stream es c else stream es c)
  pub gone_are : (c : ℕ) → 1 ≤ c → gone new c ≡ (if mask_has sent c then gone old c + 1 else gone old c)
  pub all_gone : (c : ℕ) → mask_has sent c ≡ true → gone new c ≡ length (stream later c)

-- a Move is taken and bypasses the channels
pub record MovesOn (now : ℕ) (args : Args) (sent : ℕ) (old new : Dispatching) : Type 0 where
  pub between : Dispatching
  pub first_made : StepsOn (Notify now args) old between
  pub known : (es : List Effect) → IsAfter es between → IsAfter (answered between.displays (Pump now) es) new
  pub sends :
      (es : List Effect) → IsAfter es between → SentLast es (answered between.displays (Pump now) es) (device_of args) sent between new
  pub displays_are : new.displays ≡ between.displays
  pub anrs_are : anrs_released new ≡ anrs_released between
  pub room_is : between.queue.spare ≤ new.queue.spare
