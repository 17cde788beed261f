-- What it means that the windows are known to be shown. Each law is the clause of a function of its own.
use Rattle.std.specs.Prelude.{ℕ, ◌≡◌, true, List, [], map}
use Rattle.window_snapshot.specs.Mask.{is_channel}
use Rattle.dispatch_calls.specs.declared.call.Call.{Call}
use Rattle.dispatch_history.specs.Effect.{Effect}
use Rattle.dispatch_history.specs.Legal.{answered}
use Rattle.live_input.specs.declared.limit.Limited.{Limited}
use Rattle.live_input.specs.declared.windows.ClientWindow.{ClientWindow}
use Rattle.live_input.specs.Closing.{without}
use Rattle.live_input.specs.Easing.{EasesPart}
use Rattle.live_input.specs.Limit.{first_wanted, walled, without_client}
use Rattle.live_input.specs.LimitedCalls.{ShowsAll, is_right_without, released_on}
use Rattle.live_input.specs.Standing.{LiveIs, is_plain}
use Rattle.live_input.specs.Windows.{window_of}

-- If the windows are known to be shown, they are: the last windows of the history are those that the program asked for, with
-- walls in place of those of choked clients.
abbrev pub KnowsShown : Limited → Type 0
KnowsShown s = s.wanted.is_shown ≡ true → s.live.windows ≡ map window_of (walled s.wanted.choked s.wanted.windows)

-- It is so at first,
abbrev pub KnowsFirstLaw : Type 0
KnowsFirstLaw =
    (displays : List ℕ) (s : Limited) (most : ℕ) → LiveIs displays [] s.live → s.wanted ≡ first_wanted most → KnowsShown s

-- stays so as the service is eased, in full or in part,
abbrev pub KnowsEasedLaw : Type 0
KnowsEasedLaw =
    (displays : List ℕ) (now n : ℕ) (es : List Effect) (old new : Limited)
    → LiveIs displays es old.live → EasesPart displays now n es old new → KnowsShown old → KnowsShown new

-- is so after windows are shown, whatever was known before,
abbrev pub KnowsShownLaw : Type 0
KnowsShownLaw =
    (displays : List ℕ) (now : ℕ) (ws : List ClientWindow) (es : List Effect) (old new : Limited)
    → ShowsAll displays now ws es old new → KnowsShown new

-- and stays so by a call that shows no windows, where other windows are not asked for
abbrev pub KnowsStaysLaw : Type 0
KnowsStaysLaw =
    (displays : List ℕ) (call : Call) (es : List Effect) (old new : Limited)
    → LiveIs displays es old.live → LiveIs displays (answered displays call es) new.live → is_plain call ≡ true
    → new.wanted ≡ old.wanted → KnowsShown old → KnowsShown new

-- and as a client is closed, whose window is no longer shown.
abbrev pub KnowsClosedLaw : Type 0
KnowsClosedLaw =
    (c : ℕ) (old new : Limited)
    → is_channel c ≡ true → new.live.windows ≡ without c old.live.windows
    → new.wanted ≡ released_on c (is_right_without c old.wanted) (without_client c old.wanted) → KnowsShown old → KnowsShown new
