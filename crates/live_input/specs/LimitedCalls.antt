-- Windows, requests and the end of a client, where clients are choked and released first.
use Rattle.std.specs.Prelude.{ℕ, ◌≡◌, ◌==◌, ◌&&◌, ◌||◌, ◌⊎◌, Bool, true, false, not, List, filter, map, Option, Some, None, Result, Ok, Err}
use Rattle.std.specs.declared.alloc.AllocError.{AllocError}
use Rattle.window_snapshot.specs.declared.snapshot.SnapshotError.TheVariants as snapshot
use Rattle.window_snapshot.specs.Mask.{is_channel, mask_has, mask_less, mask_with}
use Rattle.window_snapshot.specs.Snapshot.{snapshot_of}
use Rattle.dispatch_calls.specs.declared.call.Call.TheVariants.{Windows, FocusOn}
use Rattle.dispatch_history.specs.Effect.{Effect}
use Rattle.live_input.specs.declared.client.Client.{Client}
use Rattle.live_input.specs.declared.client.Seat.{Seat}
use Rattle.live_input.specs.declared.limit.Limited.{Limited}
use Rattle.live_input.specs.declared.refused.CloseRefused.{CloseRefused}
use Rattle.live_input.specs.declared.refused.FocusRefused.{FocusRefused}
use Rattle.live_input.specs.declared.refused.FocusRefused.TheVariants as focus
use Rattle.live_input.specs.declared.refused.WindowRefused.{WindowRefused}
use Rattle.live_input.specs.declared.refused.WindowRefused.TheVariants as window
use Rattle.live_input.specs.declared.refused.WindowsRefused.{WindowsRefused}
use Rattle.live_input.specs.declared.refused.WindowsRefused.TheVariants.{NotOpen, TooMany, Twice, Memory}
use Rattle.live_input.specs.declared.windows.ClientWindow.{ClientWindow}
use Rattle.live_input.specs.declared.windows.WindowInfo.{WindowInfo}
use Rattle.live_input.specs.Answers.{Makes}
use Rattle.live_input.specs.Closing.{without}
use Rattle.live_input.specs.Easing.{EasesPart, GoesEased}
use Rattle.live_input.specs.Limit.{has_window, is_of_channel, put_in, unless_choked, walled, with_request, with_windows, without_client}
use Rattle.live_input.specs.Opening.{CloseGoes}
use Rattle.live_input.specs.Seats.{is_open}
use Rattle.live_input.specs.Showing.{channel_of, may_ask}
use Rattle.live_input.specs.Wanted.{Wanted}
use Rattle.live_input.specs.Windows.{first_stale, window_of}

-- Memory ran out: a part of the easing was done, or all of it, and nothing more. What was asked for is as it was.
abbrev pub EasedAlone : List ℕ → (now : ℕ) → List Effect → (old new : Limited) → Type 0
EasedAlone displays now es old new = (n : ℕ) × EasesPart displays now n es old new

-- Reported and not yet returned are those that were so before, and the clients that became choked.
abbrev pub ReportsChoked : (old new : Limited) → Type 0
ReportsChoked old new =
    (c : ℕ) → mask_has new.live.reported c
    ≡ (mask_has old.live.reported c || (mask_has new.wanted.choked c && not (mask_has old.wanted.choked c)))

-- The windows are shown from where the service was eased, with walls in place of those of choked clients, and are then
-- what is asked for.
abbrev pub ShowsAll : List ℕ → (now : ℕ) → List ClientWindow → List Effect → (old new : Limited) → Type 0
ShowsAll displays now ws es old new =
    GoesEased displays now es old
    (λ fs eased.
    Makes displays fs (Windows now (map window_of (walled eased.wanted.choked ws))) new.live
    × (new.wanted ≡ with_windows ws eased.wanted))

-- or memory ran out
abbrev pub ShowsOrNot : List ℕ → (now : ℕ) → List ClientWindow → List Effect → Result (Unit {0}) AllocError → (old new : Limited) → Type 0
ShowsOrNot displays now ws es (Ok done) old new = ShowsAll displays now ws es old new
ShowsOrNot displays now ws es (Err error) old new = EasedAlone displays now es old new

-- The windows are of open clients, they are at most 64, and no two are of one client; the first of these that fails is
-- why they are refused.
abbrev pub Accepts : List Seat → List ClientWindow → Result (Unit {0}) WindowsRefused → Type 0
Accepts seats ws (Ok done) = (first_stale seats ws ≡ None) × (snapshot_of (map window_of ws) ≡ Ok (map window_of ws))
Accepts seats ws (Err (NotOpen place)) = first_stale seats ws ≡ Some place
Accepts seats ws (Err TooMany) = (first_stale seats ws ≡ None) × (snapshot_of (map window_of ws) ≡ Err snapshot.TooMany)
Accepts seats ws (Err (Twice c)) = (first_stale seats ws ≡ None) × (snapshot_of (map window_of ws) ≡ Err (snapshot.Twice c))
Accepts seats ws (Err Memory) = ⊥

-- After windows are shown, that was done. They are refused as `windows` of the service below refuses them, and before
-- anything is eased.
abbrev pub ShowsEased : List ℕ → (now : ℕ) → List ClientWindow → List Effect → Result (Unit {0}) WindowsRefused → (old new : Limited) → Type 0
ShowsEased displays now ws es (Ok done) old new =
    (first_stale old.live.seats ws ≡ None) × (snapshot_of (map window_of ws) ≡ Ok (map window_of ws))
    × ShowsAll displays now ws es old new
ShowsEased displays now ws es (Err (NotOpen place)) old new = (first_stale old.live.seats ws ≡ Some place) × (new ≡ old)
ShowsEased displays now ws es (Err TooMany) old new =
    (first_stale old.live.seats ws ≡ None) × (snapshot_of (map window_of ws) ≡ Err snapshot.TooMany) × (new ≡ old)
ShowsEased displays now ws es (Err (Twice c)) old new =
    (first_stale old.live.seats ws ≡ None) × (snapshot_of (map window_of ws) ≡ Err (snapshot.Twice c)) × (new ≡ old)
ShowsEased displays now ws es (Err Memory) old new =
    (first_stale old.live.seats ws ≡ None) × ((new ≡ old) ⊎ EasedAlone displays now es old new)

-- After the window of a client is replaced, all of them were shown with it where it was. The window of a client that is
-- not open, or for which none was asked for, is refused, in this order.
abbrev pub PutsEased :
    List ℕ → (now : ℕ) → Client → WindowInfo → List Effect → Result (Unit {0}) WindowRefused → (old new : Limited) → Type 0
PutsEased displays now k i es (Ok done) old new =
    (is_open old.live.seats k ≡ true) × (has_window k.channel old.wanted.windows ≡ true)
    × ShowsAll displays now (put_in k.channel i old.wanted.windows) es old new
PutsEased displays now k i es (Err window.NotOpen) old new = (is_open old.live.seats k ≡ false) × (new ≡ old)
PutsEased displays now k i es (Err window.NotShown) old new =
    (is_open old.live.seats k ≡ true) × (has_window k.channel old.wanted.windows ≡ false) × (new ≡ old)
PutsEased displays now k i es (Err window.Memory) old new =
    (is_open old.live.seats k ≡ true) × (has_window k.channel old.wanted.windows ≡ true)
    × ((new ≡ old) ⊎ EasedAlone displays now es old new)

-- After the focus is requested, it was requested for nobody in place of a client that is choked, and for the client once
-- that is released. Keys go to the display from then on. A request for a client that is not open is refused.
abbrev pub AsksEased : List ℕ → (now display : ℕ) → Option Client → List Effect → Result (Unit {0}) FocusRefused → (old new : Limited) → Type 0
AsksEased displays now y client es (Ok done) old new =
    (may_ask old.live.seats client ≡ true)
    × GoesEased displays now es old
    (λ fs eased.
    Makes displays fs (FocusOn now y (channel_of (unless_choked eased.wanted.choked client)) true) new.live
    × (new.wanted ≡ with_request y client eased.wanted))
AsksEased displays now y client es (Err focus.NotOpen) old new = (may_ask old.live.seats client ≡ false) × (new ≡ old)
AsksEased displays now y client es (Err focus.Memory) old new =
    (may_ask old.live.seats client ≡ true) × EasedAlone displays now es old new

-- the windows that are shown are those that are asked for once a channel's own is no longer shown: no wall stands for it
abbrev pub is_right_without : (channel : ℕ) → Wanted → Bool
is_right_without c w = w.is_shown && not (mask_has w.choked c && has_window c w.windows)

-- the client of a channel is no longer choked, and the windows are known to be shown or not
abbrev pub released_on : (channel : ℕ) → Bool → Wanted → Wanted
released_on c shown w = record w { choked = mask_less w.choked (mask_with 0 c); is_shown = shown }

-- A client is closed as the service below closes it, and nothing is asked for it any more, even if memory runs out. Its
-- wall, if it was choked, goes by the next call.
abbrev pub ClosesEased : List ℕ → (now : ℕ) → Client → List Effect → Result (Unit {0}) CloseRefused → (old new : Limited) → Type 0
ClosesEased displays now k es (Ok done) old new =
    CloseGoes displays now k es (Ok done) old.live new.live
    × (new.wanted ≡ released_on k.channel (is_right_without k.channel old.wanted) (without_client k.channel old.wanted))
ClosesEased displays now k es (Err error) old new =
    CloseGoes displays now k es (Err error) old.live new.live × (new.wanted ≡ without_client k.channel old.wanted)

-- The windows that are shown for what is asked for, without that of a client for which no wall stands, are those for what
-- is then asked for. So behind such a client that is closed they need not be shown again.
abbrev pub GoneLaw : Type 0
GoneLaw =
    (choked after c : ℕ) (ws : List ClientWindow) → is_channel c ≡ true → (mask_has choked c && has_window c ws) ≡ false
    → ((d : ℕ) → mask_has after d ≡ (not (d == c) && mask_has choked d))
    → without c (map window_of (walled choked ws)) ≡ map window_of (walled after (filter (λ w. not (is_of_channel c w.client)) ws))
