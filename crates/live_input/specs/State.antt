-- A live service as contracts see it.
use Rattle.std.specs.Prelude.{ℕ, max, List, Option}
use Rattle.input_types.specs.declared.message.Args.{Args}
use Rattle.device_reader.specs.Reading.{Reading}
use Rattle.window_snapshot.specs.declared.window.Window.{Window}
use Rattle.dispatch_calls.specs.declared.terms.Terms.{Terms}
use Rattle.dispatcher.specs.Dispatching.{Dispatching}
use Rattle.live_input.specs.declared.client.Seat.{Seat}
use Rattle.live_input.specs.declared.slots.Fingers.{Fingers}
use Rattle.live_input.specs.declared.steps.Steps.{Steps}

-- what each channel is opened with; the latest moment that was handed in; the dispatcher; which client is open on which channel, and how
-- many clients were opened so far; the last windows; for each display the channel for which the focus was last
-- requested, and the display whose focus gets keys; the channels whose clients were reported unresponsive and not yet
-- returned to the caller; the readers of the plugged-in devices, starting with device 1; what devices delivered that must
-- still be handed in, oldest first; the steps at which messages were published; the
-- fingers of each panel that is driven finger by finger, starting with device 1
pub record LiveState : Type 0 where
  pub terms : Terms
  pub clock : ℕ
  pub dispatcher : Dispatching
  pub seats : List Seat
  pub opened : ℕ
  pub windows : List Window
  pub requested : List (Option ℕ)
  pub asked : ℕ
  pub reported : ℕ
  pub devices : List (Option Reading)
  pub pending : List Args
  pub steps : Steps
  pub fingers : List Fingers

-- the latest moment that was handed in, with this one
abbrev pub latest : ℕ → LiveState → ℕ
latest now s = max now s.clock
