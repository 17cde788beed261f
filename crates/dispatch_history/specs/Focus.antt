-- Which windows have the focus, and which of them gets keys.
use Rattle.std.specs.Prelude.{ℕ, Bool, true, false, ◌==◌, ◌&&◌, if◌then◌else◌, List, [], ◌∷◌, Option, None}
use Rattle.input_types.specs.declared.message.Body.{Body}
use Rattle.input_types.specs.declared.message.Body.TheVariants.{Focus}
use Rattle.window_snapshot.specs.Named.{is_focusable_on}
use Rattle.focus_resolver.specs.Resolver.{focus_at, is_at, is_focused}
use Rattle.dispatch_calls.specs.declared.call.Call.{Call}
use Rattle.dispatch_calls.specs.declared.call.Call.TheVariants.{FocusOn}
use Rattle.dispatch_history.specs.History.{History, live, snapshot}

-- a step may request the focus of a display for another channel, or for none
abbrev pub requested_after : Call → ℕ → Option ℕ → Option ℕ
requested_after (FocusOn now display channel keys) y before = if y == display then channel else before
requested_after call y before = before

-- the channel for which the focus of display y was requested last
abbrev pub requested : History → ℕ → Option ℕ
requested [] y = None
requested (e ∷ h) y = requested_after e.0 y (requested h y)

-- a request takes keys to its display, or leaves them where they go
abbrev pub asked_after : Call → ℕ → ℕ
asked_after (FocusOn now display channel keys) before = if keys then display else before
asked_after call before = before

-- the display of the last request that took keys along; 0 before any
abbrev pub asked : History → ℕ
asked [] = 0
asked (e ∷ h) = asked_after e.0 (asked h)

-- a channel may have the focus of display y if it is live, and the snapshot shows a window of it there that may have it
abbrev pub may_focus : History → ℕ → ℕ → Bool
may_focus h y c = live h c && is_focusable_on (snapshot h) y c

-- the window that has the focus of display y, if there is one: the one last requested for it, if that may have it
abbrev pub focus : History → ℕ → Option ℕ
focus h y = focus_at (may_focus h) (requested h) y

-- the window is focused: it has the focus of some display
abbrev pub has_focus : History → ℕ → Bool
has_focus h w = is_focused (focus h) w

-- the key target, if there is one: the window that has the focus of the display to which keys were last taken
abbrev pub key_target : History → Option ℕ
key_target h = focus h (asked h)

-- the window is the key target
abbrev pub is_target : History → ℕ → Bool
is_target h w = is_at (key_target h) w

-- what a window is sent when its focus changes: that it lost the focus, or that it has it now
abbrev pub focus_sent : Bool → Bool → List Body
focus_sent true false = Focus false ∷ []
focus_sent false true = Focus true ∷ []
focus_sent before later = []
