-- The limit of unreceived messages: which clients are choked, and what is shown and requested instead.
use Rattle.std.specs.Prelude.{ℕ, ◌-◌, ◌==◌, ◌&&◌, ◌||◌, Bool, true, false, not, is_some, nat_lt, bit_and, bit_or, List, [], ◌∷◌, length, map, replicate, slice_index_or, slice_set, filter, Option, Some, None, if◌then◌else◌}
use Rattle.window_snapshot.specs.declared.flags.WindowFlags.{WindowFlags}
use Rattle.std.specs.List.{list_any}
use Rattle.window_snapshot.specs.Mask.{is_channel, mask_has}
use Rattle.dispatch_calls.specs.declared.call.Call.TheVariants.{Windows, FocusOn}
use Rattle.dispatch_history.specs.Delivery.{oldest}
use Rattle.dispatch_history.specs.Effect.{Effect, past_of, stream}
use Rattle.dispatch_history.specs.Focus.{requested}
use Rattle.dispatch_history.specs.History.{received}
use Rattle.dispatch_history.specs.Legal.{answered}
use Rattle.live_input.specs.declared.client.Client.{Client}
use Rattle.live_input.specs.declared.client.Seat.{Seat}
use Rattle.live_input.specs.Wanted.{Wanted}
use Rattle.live_input.specs.declared.windows.ClientWindow.{ClientWindow}
use Rattle.live_input.specs.declared.windows.WindowInfo.{WindowInfo}
use Rattle.live_input.specs.Seats.{is_held, seat_of}
use Rattle.live_input.specs.Showing.{channel_of}
use Rattle.live_input.specs.Windows.{window_of}

-- how many messages of a channel were sent and not received
abbrev pub unreceived : List Effect → ℕ → ℕ
unreceived es c = length (stream es c) - received (past_of es) c

-- A client is choked from when it has more than the most unreceived messages until it has none that is unfinished.
abbrev pub is_choked : (most choked : ℕ) → List Seat → List Effect → ℕ → Bool
is_choked most choked seats es c =
    is_channel c && (is_held (seat_of seats c)
    && (is_some (oldest es c) && (mask_has choked c || nat_lt most (unreceived es c))))

-- the client, or nobody in place of one whose channel is choked
abbrev pub unless_choked : (choked : ℕ) → Option Client → Option Client
unless_choked choked None = None
unless_choked choked (Some k) = if mask_has choked k.channel then None else Some k

-- the flags of a wall in place of a window with these: that of a spy lets touches through, as the spy does
abbrev pub wall_flags : WindowFlags → WindowFlags
wall_flags f = if bit_and f.bits 16 == 16 then record { bits = bit_or f.bits 1 } else f

-- a wall where the window is, as large and as opaque, and of the same owner
abbrev pub wall_of : ClientWindow → ClientWindow
wall_of w = record { client = None; info = record w.info { flags = wall_flags w.info.flags } }

-- a window, or the wall in its place if its client is choked
abbrev pub walled_one : (choked : ℕ) → Option Client → ClientWindow → ClientWindow
walled_one choked None w = w
walled_one choked (Some k) w = if mask_has choked k.channel then wall_of w else w

-- the windows, with walls in place of those of choked clients
abbrev pub walled : (choked : ℕ) → List ClientWindow → List ClientWindow
walled choked ws = map (λ w. walled_one choked w.client w) ws

-- the client for which the focus of a display is to be requested
abbrev pub wanted_on : Wanted → (display : ℕ) → Option Client
wanted_on w y = unless_choked w.choked (slice_index_or w.requested y None)

-- nothing is asked for yet
abbrev pub first_wanted : (most : ℕ) → Wanted
first_wanted most =
    record { most = most; windows = []; requested = replicate 4 None; choked = 0; is_shown = true }

-- the windows are asked for
abbrev pub with_windows : List ClientWindow → Wanted → Wanted
with_windows ws w = record w { windows = ws }

-- the focus of a display is asked for, for a client or for none
abbrev pub with_request : (display : ℕ) → Option Client → Wanted → Wanted
with_request y client w = record w { requested = slice_set w.requested y client }

-- the window is of this channel
abbrev pub is_of_channel : ℕ → Option Client → Bool
is_of_channel c None = false
is_of_channel c (Some k) = k.channel == c

-- one of the windows is of this channel
abbrev pub has_window : ℕ → List ClientWindow → Bool
has_window c ws = list_any (λ v. is_of_channel c v.client) ws

-- nothing is asked for a client that goes; if it had a window, the others must be shown without it, or without its wall
abbrev pub without_client : ℕ → Wanted → Wanted
without_client c w = record w {
  windows = filter (λ v. not (is_of_channel c v.client)) w.windows;
  requested = map (λ r. if is_of_channel c r then None else r) w.requested;
  is_shown = w.is_shown && not (has_window c w.windows);
}

-- the window of a client with this in place of what it was
abbrev pub put_in : (channel : ℕ) → WindowInfo → List ClientWindow → List ClientWindow
put_in c i ws = map (λ (v : ClientWindow). if is_of_channel c v.client then record v { info = i } else v) ws

-- two requests are for the same channel, or both for none
abbrev pub is_same : Option ℕ → Option ℕ → Bool
is_same None None = true
is_same (Some c) (Some d) = c == d
is_same one other = false

-- the windows are shown again, with the walls, unless they are shown so
abbrev pub shown_again : List ℕ → (now : ℕ) → Wanted → List Effect → List Effect
shown_again displays now w es =
    if w.is_shown then es else answered displays (Windows now (map window_of (walled w.choked w.windows))) es

-- the focus of a display was last requested as it is wanted
abbrev pub is_placed : Wanted → List Effect → (display : ℕ) → Bool
is_placed w es y = is_same (requested (past_of es) y) (channel_of (wanted_on w y))

-- that of each display was
abbrev pub are_placed : Wanted → List Effect → Bool
are_placed w es = is_placed w es 0 && is_placed w es 1 && is_placed w es 2 && is_placed w es 3

-- The focus of a display is requested again, unless that was the last request for it. Keys go where they went.
abbrev pub asked_on : List ℕ → (now : ℕ) → Wanted → (display : ℕ) → List Effect → List Effect
asked_on displays now w y es =
    if is_placed w es y then es else answered displays (FocusOn now y (channel_of (wanted_on w y)) false) es

-- the requests by which the focus is where it is wanted, in order: each makes at most one call
abbrev pub askings : List ℕ → (now : ℕ) → Wanted → List (List Effect → List Effect)
askings displays now w =
    asked_on displays now w 0 ∷ asked_on displays now w 1 ∷ asked_on displays now w 2 ∷ asked_on displays now w 3 ∷ []

-- what is done so that the history agrees with what is wanted: the windows first, and then the focus
abbrev pub easings : List ℕ → (now : ℕ) → Wanted → List (List Effect → List Effect)
easings displays now w = shown_again displays now w ∷ askings displays now w

-- these, one after another
abbrev pub eased_by : List (List Effect → List Effect) → List Effect → List Effect
eased_by [] es = es
eased_by (step ∷ steps) es = eased_by steps (step es)

-- all of it
abbrev pub eased : List ℕ → (now : ℕ) → Wanted → List Effect → List Effect
eased displays now w es = eased_by (easings displays now w) es
