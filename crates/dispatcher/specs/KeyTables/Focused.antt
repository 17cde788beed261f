-- What is kept of the focus.
use Rattle.std.specs.Prelude.{◌≡◌, ◌<◌, ℕ, Bool, true, false, List, [], ◌∷◌, length, slice_index_or, Option, Some, None, if◌then◌else◌}
use Rattle.input_types.specs.declared.message.Body.{Body}
use Rattle.input_types.specs.declared.message.Body.TheVariants.{Focus}
use Rattle.window_snapshot.specs.Mask.{mask_has}
use Rattle.focus_resolver.specs.Resolver.{FocusState, may_by}
use Rattle.dispatch_calls.specs.declared.call.Call.{Call}
use Rattle.dispatch_calls.specs.declared.call.Call.TheVariants.{FocusOn, Notify, Pump, Tick, Receive, Finish, Pilfer}
use Rattle.dispatch_history.specs.History.{History}
use Rattle.dispatch_history.specs.Focus.{requested, asked, may_focus}
use Rattle.dispatch_history.specs.Effect.{Effect, past_of}

-- the masks of the displays 0 to 3 contain the channels that may have the focus of each after a history
abbrev pub MasksAre : List ℕ → History → Type 0
MasksAre masks h = (y c : ℕ) → y < 4 → may_by masks y c ≡ may_focus h y c

-- what is kept is the focus after a history with these effects: for each of four displays the channel last requested,
-- the display to which keys were last taken, and the channels that may have the focus of each
pub record FocusIs (es : List Effect) (f : FocusState) : Type 0 where
  pub four : length f.requested ≡ 4
  pub requested_are : (y : ℕ) → y < 4 → slice_index_or f.requested y None ≡ requested (past_of es) y
  pub last_is : f.last ≡ asked (past_of es)
  pub last_within : f.last < 4
  pub masks_are : MasksAre f.focusable (past_of es)

-- the call requests the focus of a display
abbrev pub is_request : Call → Bool
is_request (FocusOn now display channel keys) = true
is_request call = false

-- the call leaves the focus as it is: it is neither a focus request nor a snapshot, and neither opens nor removes a
-- channel
abbrev pub leaves_focus : Call → Bool
leaves_focus (Notify now args) = true
leaves_focus (Pump now) = true
leaves_focus (Tick now) = true
leaves_focus (Receive channel) = true
leaves_focus (Finish now channel seq) = true
leaves_focus (Pilfer now channel device) = true
leaves_focus call = false

-- whether a channel is sent that it lost the focus or that it has it now, by the masks of the channels that lost it
-- and of those that gained it
abbrev pub change_of : (lost gained : ℕ) → ℕ → Option Bool
change_of lost gained w = if mask_has lost w then Some false else if mask_has gained w then Some true else None

-- that as bodies
abbrev pub change_sent : Option Bool → List Body
change_sent None = []
change_sent (Some b) = Focus b ∷ []
