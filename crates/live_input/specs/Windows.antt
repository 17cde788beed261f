-- Windows of clients.
use Rattle.std.specs.Prelude.{ℕ, ◌≡◌, not, List, map, Option, Some, None, Result, Ok, Err}
use Rattle.std.specs.List.{position}
use Rattle.window_snapshot.specs.declared.snapshot.SnapshotError.{SnapshotError}
use Rattle.window_snapshot.specs.declared.snapshot.SnapshotError.TheVariants as snapshot
use Rattle.window_snapshot.specs.declared.window.Window.{Window}
use Rattle.window_snapshot.specs.Snapshot.{snapshot_of}
use Rattle.window_snapshot.specs.Walls.{wall_on}
use Rattle.dispatch_calls.specs.declared.call.Call.TheVariants.{Windows}
use Rattle.dispatch_history.specs.Effect.{Effect}
use Rattle.live_input.specs.declared.client.Client.{Client}
use Rattle.live_input.specs.declared.client.Seat.{Seat}
use Rattle.live_input.specs.declared.refused.WindowsRefused.{WindowsRefused}
use Rattle.live_input.specs.declared.refused.WindowsRefused.TheVariants.{NotOpen, TooMany, Twice, Memory}
use Rattle.live_input.specs.declared.windows.ClientWindow.{ClientWindow}
use Rattle.live_input.specs.declared.windows.WindowInfo.{WindowInfo}
use Rattle.live_input.specs.Showing.{may_ask}
use Rattle.live_input.specs.Answers.{Makes}
use Rattle.live_input.specs.State.{LiveState}

-- the channel of a client, or the number of the walls of the display if there is none
abbrev pub number_of : Option Client → (display : ℕ) → ℕ
number_of None y = wall_on y
number_of (Some k) y = k.channel

-- the window of a channel
abbrev pub window_by : (channel : ℕ) → WindowInfo → Window
window_by c i = record {
  channel = c;
  display = i.display;
  frame = i.frame;
  region = i.region;
  flags = i.flags;
  owner = i.owner;
  opacity = i.opacity;
  occlusion = i.occlusion;
}

-- the window by its channel; a window of no client is a wall
abbrev pub window_of : ClientWindow → Window
window_of w = window_by (number_of w.client w.info.display) w.info

-- the index of the first window whose client is not open
abbrev pub first_stale : List Seat → List ClientWindow → Option ℕ
first_stale seats ws = position (λ w. not (may_ask seats w.client)) ws

-- The windows make a snapshot if they can. Memory may run out at any time.
abbrev pub IsSnapshotOf : List Window → Result (List Window) SnapshotError → Type 0
IsSnapshotOf ws (Ok shown) = (shown ≡ ws) × (snapshot_of ws ≡ Ok ws)
IsSnapshotOf ws (Err snapshot.Memory) = Unit {0}
IsSnapshotOf ws (Err error) = snapshot_of ws ≡ Err error

-- After windows are shown, that call was made. Windows of a client that is not open,
-- too many windows, and two windows of one client are refused, in this order. A refusal changes nothing.
abbrev pub WindowsGo :
    List ℕ → (now : ℕ) → List ClientWindow → List Effect → Result (Unit {0}) WindowsRefused → (old new : LiveState) → Type 0
WindowsGo displays now ws es (Ok done) old new =
    (first_stale old.seats ws ≡ None) × (snapshot_of (map window_of ws) ≡ Ok (map window_of ws))
    × Makes displays es (Windows now (map window_of ws)) new
WindowsGo displays now ws es (Err (NotOpen place)) old new = (first_stale old.seats ws ≡ Some place) × (new ≡ old)
WindowsGo displays now ws es (Err TooMany) old new =
    (first_stale old.seats ws ≡ None) × (snapshot_of (map window_of ws) ≡ Err snapshot.TooMany) × (new ≡ old)
WindowsGo displays now ws es (Err (Twice c)) old new =
    (first_stale old.seats ws ≡ None) × (snapshot_of (map window_of ws) ≡ Err (snapshot.Twice c)) × (new ≡ old)
WindowsGo displays now ws es (Err Memory) old new = (first_stale old.seats ws ≡ None) × (new ≡ old)
