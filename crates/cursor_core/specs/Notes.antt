-- To which windows one call sends something, by what it does to the cursor and to the hovered window.
use Rattle.std.specs.Prelude.{ℕ, true, ◌==◌, if◌then◌else◌, List, [], ◌∷◌, ◌++◌, Option, Some, None, option_map}
use Rattle.std.specs.Option.{option_and_then}
use Rattle.input_types.specs.declared.axis.Pixel.{Pixel}
use Rattle.window_snapshot.specs.Mask.{mask_has}
use Rattle.cursor_core.specs.declared.message.HoverAction.{HoverAction}
use Rattle.cursor_core.specs.declared.message.HoverAction.TheVariants.{Enter}
use Rattle.cursor_core.specs.declared.message.HoverMsg.{HoverMsg}
use Rattle.cursor_core.specs.declared.note.Note.{Note}
use Rattle.cursor_core.specs.declared.note.Step.{Step}
use Rattle.cursor_core.specs.Told.{change, is_at, message, place}

-- where an action is
abbrev pub pixel_of : Step → HoverAction → Pixel
pixel_of s action = place action s.from s.to

-- the message of an action to a channel whose window has this origin
abbrev pub note_at : Step → ℕ → HoverAction → Pixel → Note
note_at s w action o = record { channel = w; message = message s.moment action (pixel_of s action) o }

-- what a window that was hovered is sent, if it is live
abbrev pub note_of : Step → ℕ → Pixel → Option Note
note_of s w o = if mask_has s.live w then option_map (λ action. note_at s w action o) (change true (is_at s.after w) s.moved) else None

-- what a window that was not hovered and is now is sent
abbrev pub note_to : Step → ℕ → Pixel → Option Note
note_to s w o = if is_at s.before w then None else Some (note_at s w Enter o)

-- what the window that was hovered is sent
abbrev pub note_before : Step → Pixel → Option Note
note_before s o = option_and_then (λ w. note_of s w o) s.before

-- what the window that is hovered now is sent, if it was not before
abbrev pub note_after : Step → Pixel → Option Note
note_after s o = option_and_then (λ w. note_to s w o) s.after

-- what a note sends to a window
abbrev pub note_list : Option Note → ℕ → List HoverMsg
note_list None w = []
note_list (Some n) w = if n.channel == w then n.message ∷ [] else []

-- what two notes send to a window
abbrev pub noted : Option Note → Option Note → ℕ → List HoverMsg
noted first second w = note_list first w ++ note_list second w
