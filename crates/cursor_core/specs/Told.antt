-- What each window is sent.
use Rattle.std.specs.Prelude.{◌≡◌, ℕ, nat_le, nat_lt, Bool, true, false, ◌==◌, ◌&&◌, ◌||◌, if◌then◌else◌, List, [], ◌∷◌, ◌++◌, Option, Some, None, option_map}
use Rattle.std.specs.Option.{option_to_list}
use Rattle.input_types.specs.declared.axis.Pixel.{Pixel}
use Rattle.cursor_core.specs.declared.call.CursorCall.{CursorCall}
use Rattle.cursor_core.specs.declared.call.CursorCall.TheVariants.{Moved, Windows, Remove}
use Rattle.cursor_core.specs.declared.message.HoverAction.{HoverAction}
use Rattle.cursor_core.specs.declared.message.HoverAction.TheVariants.{Enter, Move, Exit}
use Rattle.cursor_core.specs.declared.message.HoverMsg.{HoverMsg}
use Rattle.cursor_core.specs.Calls.{Screen, clock, cursor, hovered, is_motion, live, origin}
use Rattle.window_snapshot.specs.Origins.{place_from}

-- the hovered window is this one
abbrev pub is_at : Option ℕ → ℕ → Bool
is_at None w = false
is_at (Some v) w = v == w

-- What a call sends to a window, by whether it was hovered before the call, whether it is after, and whether the
-- mouse moved: Enter if it now is and was not, Exit if it was and is not, and Move if it was and is and the mouse
-- moved.
abbrev pub change : Bool → Bool → Bool → Option HoverAction
change true true true = Some Move
change true true false = None
change true false moved = Some Exit
change false true moved = Some Enter
change false false moved = None

-- an Exit is at the cursor before the call, and any other action at the cursor after it
abbrev pub place : HoverAction → Pixel → Pixel → Pixel
place Enter before after = after
place Move before after = after
place Exit before after = before

-- the message of an action at a position on the display, to a window with this origin
abbrev pub message : ℕ → HoverAction → Pixel → Pixel → HoverMsg
message moment action at o = record { moment = moment; action = action; at = place_from o at }

-- what a window is sent for an action of a call: the moment is the clock, and the position is relative to the
-- window's origin, both after the call
abbrev pub message_of : Screen → CursorCall → List CursorCall → ℕ → HoverAction → HoverMsg
message_of d call calls w action =
    message (clock (call ∷ calls)) action (place action (cursor d calls) (cursor d (call ∷ calls))) (origin (call ∷ calls) w)

-- what a call after these calls sends to a window; one that is not live after it is sent nothing
abbrev pub told : Screen → CursorCall → List CursorCall → ℕ → List HoverMsg
told d call calls w =
    if live d.channels (call ∷ calls) w then
    option_to_list (option_map (message_of d call calls w) (change (is_at (hovered d calls) w) (is_at (hovered d (call ∷ calls)) w) (is_motion call)))
    else []

-- everything that these calls send to a window, oldest message first
abbrev pub stream : Screen → List CursorCall → ℕ → List HoverMsg
stream d [] w = []
stream d (call ∷ calls) w = stream d calls w ++ told d call calls w

-- the stream of a channel, if it is one of the first
abbrev pub stream_of : Screen → List CursorCall → ℕ → Option (List HoverMsg)
stream_of d calls c = if nat_lt 0 c && nat_le c d.channels then Some (stream d calls c) else None

-- whether a stream is open after an action: an Enter opens it, a Move leaves it open, an Exit closes it, and nothing else may come
abbrev pub turn : HoverAction → Bool → Option Bool
turn Enter false = Some true
turn Move true = Some true
turn Exit true = Some false
turn _ _ = None

-- a stream that may not come stays so
abbrev pub turn_from : HoverAction → Option Bool → Option Bool
turn_from a None = None
turn_from a (Some opened) = turn a opened

-- whether a stream is open at its end, if its actions alternate
abbrev pub turns : Option Bool → List HoverMsg → Option Bool
turns opened [] = opened
turns opened (m ∷ ms) = turns (turn_from m.action opened) ms

-- a call removes a window while it is hovered, or one before did
abbrev pub removed_after : CursorCall → ℕ → Bool → Bool → Bool
removed_after (Moved now dx dy) w was before = before
removed_after (Windows now snapshot) w was before = before
removed_after (Remove now k) w was before = (w == k && was) || before

-- a window was removed while it was hovered
abbrev pub was_removed : Screen → List CursorCall → ℕ → Bool
was_removed d [] w = false
was_removed d (call ∷ calls) w = removed_after call w (is_at (hovered d calls) w) (was_removed d calls w)

-- Each stream repeats Enter, any number of Moves, Exit, and is open exactly if its window is hovered or was removed
-- while it was.
abbrev pub IsInTurns : Screen → List CursorCall → Type 0
IsInTurns d calls = (w : ℕ) → turns (Some false) (stream d calls w) ≡ Some (is_at (hovered d calls) w || was_removed d calls w)
