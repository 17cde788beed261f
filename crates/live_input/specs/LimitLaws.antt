-- Proved facts about choked clients. Each law is the clause of a function of its own.
use Rattle.std.specs.Prelude.{ℕ, ◌≡◌, ◌≤◌, ◌+◌, ◌*◌, true, false, List, [], ◌∷◌, length, map, take, Option, Some}
use Rattle.input_types.specs.declared.message.Args.{Args}
use Rattle.input_types.specs.declared.message.Args.TheVariants.{Motion as MotionArgs}
use Rattle.window_snapshot.specs.Mask.{mask_has}
use Rattle.window_snapshot.specs.Named.{is_focusable_on, is_named, window_of as window_on}
use Rattle.dispatch_calls.specs.declared.call.Call.{Call}
use Rattle.dispatch_calls.specs.declared.call.Call.TheVariants.{Windows}
use Rattle.dispatch_history.specs.Effect.{Effect, past_of, stream}
use Rattle.dispatch_history.specs.Focus.{asked, key_target}
use Rattle.dispatch_history.specs.Keys.{keys}
use Rattle.dispatch_history.specs.Legal.{answered}
use Rattle.dispatch_history.specs.Ordered.{extend}
use Rattle.dispatcher.specs.DispatchTables.Lawful.{Lawful}
use Rattle.live_input.specs.declared.windows.ClientWindow.{ClientWindow}
use Rattle.live_input.specs.declared.windows.WindowInfo.{WindowInfo}
use Rattle.live_input.specs.Limit.{eased_by, easings, is_choked, is_placed, unreceived, walled}
use Rattle.live_input.specs.Seats.{IsHeld}
use Rattle.live_input.specs.Standing.{IsDone, LiveIs}
use Rattle.live_input.specs.State.{LiveState}
use Rattle.live_input.specs.Wanted.{Wanted}
use Rattle.live_input.specs.Windows.{window_of}

-- A choked channel has no window among those that are shown, so no call sends it anything (`silence`).
abbrev pub HiddenLaw : Type 0
HiddenLaw =
    (choked : ℕ) (ws : List ClientWindow) (c : ℕ)
    → mask_has choked c ≡ true → is_named (map window_of (walled choked ws)) c ≡ false

-- none of these calls shows a window of the channel
abbrev pub NoneShows : (channel : ℕ) → List Call → Type 0
NoneShows c [] = Unit {0}
NoneShows c (Windows now ws ∷ calls) = (is_named ws c ≡ false) × NoneShows c calls
NoneShows c (call ∷ calls) = NoneShows c calls

-- Once the windows are shown with the walls, no call sends a choked client anything more, until its window is shown
-- again.
abbrev pub QuietLaw : Type 0
QuietLaw =
    (displays : List ℕ) (es : List Effect) (now choked c : ℕ) (ws : List ClientWindow) (calls : List Call)
    → Lawful displays es → mask_has choked c ≡ true → NoneShows c calls
    → let fs = answered displays (Windows now (map window_of (walled choked ws))) es in
    stream (extend displays fs calls) c ≡ stream fs c

-- Any other channel has the window that was asked for.
abbrev pub LeftLaw : Type 0
LeftLaw =
    (choked : ℕ) (ws : List ClientWindow) (c : ℕ) → c ≤ 64 → mask_has choked c ≡ false
    → window_on (map window_of (walled choked ws)) c ≡ window_on (map window_of ws) c

-- what a window is, except whose and except its flags
abbrev pub cover_of : ClientWindow → WindowInfo
cover_of w = record w.info { flags = record { bits = 0 } }

-- A wall covers what its window does, in the same place of the order.
abbrev pub CoverLaw : Type 0
CoverLaw = (choked : ℕ) (ws : List ClientWindow) → map cover_of (walled choked ws) ≡ map cover_of ws

-- An open client that is not choked has at most the most unreceived messages.
abbrev pub BoundLaw : Type 0
BoundLaw =
    (displays : List ℕ) (es : List Effect) (s : LiveState) (most choked c : ℕ)
    → LiveIs displays es s → IsHeld c s.seats → is_choked most choked s.seats es c ≡ false → unreceived es c ≤ most

-- One that is no longer choked received and finished everything.
abbrev pub DrainedLaw : Type 0
DrainedLaw =
    (displays : List ℕ) (es : List Effect) (s : LiveState) (most choked c : ℕ)
    → LiveIs displays es s → IsHeld c s.seats → mask_has choked c ≡ true → is_choked most choked s.seats es c ≡ false
    → IsDone es c

-- no motion lists more than 16 pointers, as none of a device does
abbrev pub IsFew : Option Args → Type 0
IsFew (Some (MotionArgs m)) = length m.pointers ≤ 16
IsFew args = Unit {0}

-- and so of all that was dispatched
abbrev pub AllFew : List Effect → Type 0
AllFew [] = Unit {0}
AllFew (x ∷ es) = IsFew x.args × AllFew es

-- A call of the dispatcher sends a client 131 messages at most, and one for each key that is down in its window. So after
-- some calls a client that was not choked has no more unreceived messages than the most, these keys, and 131 a call.
abbrev pub GrowthLaw : Type 0
GrowthLaw =
    (displays : List ℕ) (es : List Effect) (s : LiveState) (most choked c : ℕ) (calls : List Call)
    → LiveIs displays es s → IsHeld c s.seats → is_choked most choked s.seats es c ≡ false
    → AllFew (extend displays es calls)
    → unreceived (extend displays es calls) c ≤ most + length (keys es c) + 131 * length calls

-- Choking and releasing clients leaves the display whose focus gets keys, in full or in part.
abbrev pub EasedDisplayLaw : Type 0
EasedDisplayLaw =
    (displays : List ℕ) (now n : ℕ) (w : Wanted) (es : List Effect)
    → asked (past_of (eased_by (take n (easings displays now w)) es)) ≡ asked (past_of es)

-- It leaves the key target and the keys that it holds, if the focus of its display is wanted as it was requested, and if
-- what is shown, with walls, has a window of it there that may have the focus.
abbrev pub EasedKeysLaw : Type 0
EasedKeysLaw =
    (displays : List ℕ) (now n : ℕ) (w : Wanted) (es : List Effect) (c : ℕ)
    → key_target (past_of es) ≡ Some c
    → is_placed w es (asked (past_of es)) ≡ true
    → (w.is_shown ≡ false → is_focusable_on (map window_of (walled w.choked w.windows)) (asked (past_of es)) c ≡ true)
    → let fs = eased_by (take n (easings displays now w)) es in
    (key_target (past_of fs) ≡ Some c) × (keys fs c ≡ keys es c)
