-- One window, replaced where it is.
use Rattle.std.specs.Prelude.{ℕ, ◌≡◌, ◌==◌, true, false, List, map, Some, Result, Ok, Err, if◌then◌else◌}
use Rattle.window_snapshot.specs.declared.window.Window.{Window}
use Rattle.window_snapshot.specs.Named.{is_named, window_of as window_on}
use Rattle.dispatch_calls.specs.declared.call.Call.TheVariants.{Windows}
use Rattle.dispatch_history.specs.Effect.{Effect}
use Rattle.live_input.specs.declared.refused.WindowRefused.{WindowRefused}
use Rattle.live_input.specs.declared.refused.WindowRefused.TheVariants.{NotOpen, NotShown, Memory}
use Rattle.live_input.specs.declared.client.Client.{Client}
use Rattle.live_input.specs.declared.windows.WindowInfo.{WindowInfo}
use Rattle.live_input.specs.Answers.{Makes}
use Rattle.live_input.specs.Seats.{is_open}
use Rattle.live_input.specs.State.{LiveState}
use Rattle.live_input.specs.Windows.{window_by}

-- the windows with this one in place of the one of its channel
abbrev pub replaced : List Window → Window → List Window
replaced ws w = map (λ v. if v.channel == w.channel then w else v) ws

-- After a window is replaced, the call was made that shows the last windows with it in place of that of its client.
-- The window of a client that is not open, or that has no window, is refused, in this order. A refusal changes nothing.
abbrev pub WindowGoes :
    List ℕ → (now : ℕ) → Client → WindowInfo → List Effect → Result (Unit {0}) WindowRefused → (old new : LiveState) → Type 0
WindowGoes displays now k info es (Ok done) old new =
    (is_open old.seats k ≡ true) × (is_named old.windows k.channel ≡ true)
    × Makes displays es (Windows now (replaced old.windows (window_by k.channel info))) new
WindowGoes displays now k info es (Err NotOpen) old new = (is_open old.seats k ≡ false) × (new ≡ old)
WindowGoes displays now k info es (Err NotShown) old new =
    (is_open old.seats k ≡ true) × (is_named old.windows k.channel ≡ false) × (new ≡ old)
WindowGoes displays now k info es (Err Memory) old new =
    (is_open old.seats k ≡ true) × (is_named old.windows k.channel ≡ true) × (new ≡ old)

-- The channels are the same, in the same order.
abbrev pub ChannelsLaw : Type 0
ChannelsLaw = (ws : List Window) (w : Window) → map (λ v. v.channel) (replaced ws w) ≡ map (λ v. v.channel) ws

-- The window of any other channel is as it was.
abbrev pub OthersLaw : Type 0
OthersLaw =
    (ws : List Window) (w : Window) (c : ℕ) → (c == w.channel) ≡ false → window_on (replaced ws w) c ≡ window_on ws c

-- A channel that has a window has this one.
abbrev pub NewLaw : Type 0
NewLaw = (ws : List Window) (w : Window) → is_named ws w.channel ≡ true → window_on (replaced ws w) w.channel ≡ Some w
