-- Worked examples: what windows are sent for a mouse. Calls and events are newest first.
use Rattle.std.specs.Prelude.{◌≡◌, ℕ, ℤ, pos, negsuc, true, List, [], ◌∷◌, Some, None, refl}
use Rattle.touch_region.specs.declared.rectangle.Rect.{Rect}
use Rattle.raw_events.specs.declared.event.RawEvent.{RawEvent}
use Rattle.window_snapshot.specs.declared.occlusion.Occlusion.TheVariants.{Block}
use Rattle.window_snapshot.specs.declared.window.Window.{Window}
use Rattle.cursor_core.specs.declared.call.CursorCall.{CursorCall}
use Rattle.cursor_core.specs.declared.call.CursorCall.TheVariants.{Moved, Windows, Remove}
use Rattle.cursor_core.specs.declared.message.HoverAction.{HoverAction}
use Rattle.cursor_core.specs.declared.message.HoverAction.TheVariants.{Enter, Move, Exit}
use Rattle.cursor_core.specs.declared.message.HoverMsg.{HoverMsg}
use Rattle.cursor_core.specs.Calls.{Screen, cursor}
use Rattle.cursor_core.specs.Packets.{latest, motion_of, summed}
use Rattle.cursor_core.specs.Told.{stream, was_removed}

-- a window of a channel that can be touched all over its frame
abbrev window : ℕ → ℕ → ℕ → ℕ → ℕ → Window
window channel left top right bottom =
    let frame : Rect = record { left = pos left; top = pos top; right = pos right; bottom = pos bottom } in
    record { channel = channel; display = 0; frame = frame; region = frame ∷ []; flags = record { bits = 0 }; owner = 0; opacity = 100; occlusion = Block }

abbrev send : ℕ → HoverAction → ℕ → ℕ → HoverMsg
send moment action x y = record { moment = moment; action = action; at = record { x = pos x; y = pos y } }

-- a display of 1080 by 2400 and two channels
abbrev phone : Screen
phone = record { width = 1080; height = 2400; channels = 2 }

abbrev left : Window
left = window 1 0 0 540 2400

abbrev right : Window
right = window 2 540 0 1080 2400

-- 40 to the left, 100 to the right, 5000 up, and then `right` is no longer shown
abbrev walk : List CursorCall
walk =
    Windows 4000 (left ∷ [])
    ∷ Moved 3000 (pos 0) (negsuc 4999)
    ∷ Moved 2000 (pos 100) (pos 0)
    ∷ Moved 1000 (negsuc 39) (pos 0)
    ∷ Windows 0 (left ∷ right ∷ [])
    ∷ []

pub left_on_a_walk : stream phone walk 1 ≡ send 1000 Enter 500 1200 ∷ send 2000 Exit 500 1200 ∷ []
left_on_a_walk = refl

pub right_on_a_walk : stream phone walk 2 ≡ send 2000 Enter 60 1200 ∷ send 3000 Move 60 0 ∷ send 4000 Exit 60 0 ∷ []
right_on_a_walk = refl

-- an app over the whole display, and a dialog in front of it
abbrev dialog : Window
dialog = window 1 40 200 1040 2200

abbrev app : Window
app = window 2 0 0 1080 2400

-- the hovered dialog is closed: it is sent no Exit, and the app behind it has the cursor
abbrev closing : List CursorCall
closing = Remove 2000 1 ∷ Moved 1000 (pos 0) (pos 0) ∷ Windows 0 (dialog ∷ app ∷ []) ∷ []

pub dialog_is_closed : stream phone closing 1 ≡ send 1000 Enter 500 1000 ∷ []
dialog_is_closed = refl

pub app_behind_is_entered : stream phone closing 2 ≡ send 2000 Enter 540 1200 ∷ []
app_behind_is_entered = refl

pub dialog_was_removed : was_removed phone closing 1 ≡ true
dialog_was_removed = refl

-- a dialog comes and goes under a cursor that stands still
abbrev passing : List CursorCall
passing = Windows 3000 (app ∷ []) ∷ Windows 2000 (dialog ∷ app ∷ []) ∷ Moved 1000 (pos 0) (pos 0) ∷ Windows 0 (app ∷ []) ∷ []

pub dialog_comes_and_goes : stream phone passing 1 ≡ send 2000 Enter 500 1000 ∷ send 3000 Exit 500 1000 ∷ []
dialog_comes_and_goes = refl

pub app_is_left_and_entered : stream phone passing 2 ≡ send 1000 Enter 540 1200 ∷ send 2000 Exit 540 1200 ∷ send 3000 Enter 540 1200 ∷ []
app_is_left_and_entered = refl

-- a window that is moved away is sent where the cursor was, relative to its new corner
pub window_is_moved_away :
    stream phone (Windows 2000 (window 1 600 0 1080 2400 ∷ []) ∷ Moved 1000 (pos 0) (pos 0) ∷ Windows 0 (dialog ∷ []) ∷ []) 1
    ≡ send 1000 Enter 500 1000 ∷ record { moment = 2000; action = Exit; at = record { x = negsuc 59; y = pos 1200 } } ∷ []
window_is_moved_away = refl

-- windows come and go before the mouse has moved
pub nothing_before_a_motion : stream phone (Windows 1000 [] ∷ Windows 0 (app ∷ []) ∷ []) 2 ≡ []
nothing_before_a_motion = refl

-- the greatest and the least motion end at the edges
pub far_right : cursor phone (Moved 0 (pos 9223372036854775807) (negsuc 9223372036854775807) ∷ []) ≡ record { x = pos 1079; y = pos 0 }
far_right = refl

-- a display of one pixel
abbrev dot : Screen
dot = record { width = 1; height = 1; channels = 1 }

pub dot_is_moved_on :
    stream dot (Moved 2000 (pos 7) (negsuc 6) ∷ Moved 1000 (pos 1) (pos 1) ∷ Windows 0 (window 1 0 0 1 1 ∷ []) ∷ []) 1
    ≡ send 1000 Enter 0 0 ∷ send 2000 Move 0 0 ∷ []
dot_is_moved_on = refl

abbrev event : ℕ → ℕ → ℤ → RawEvent
event kind code value = record { device = 1; moment = 5000; kind = kind; code = code; value = value }

-- a packet with two events of REL_X and one of REL_Y
pub packet_is_summed :
    motion_of (event 2 0 (pos 100) ∷ event 2 1 (pos 3) ∷ event 2 0 (negsuc 39) ∷ []) (event 0 0 (pos 0)) ≡ Some (Moved 5000 (pos 60) (pos 3))
packet_is_summed = refl

-- a button and a wheel move nothing
pub button_moves_nothing : motion_of (event 2 8 (pos 1) ∷ event 1 272 (pos 1) ∷ []) (event 0 0 (pos 0)) ≡ None
button_moves_nothing = refl

-- what comes between a SYN_DROPPED and the end of its packet moves nothing, and neither does what came before it
pub drop_moves_nothing : motion_of (event 2 0 (pos 1) ∷ event 0 3 (pos 0) ∷ event 2 0 (pos 1) ∷ []) (event 0 0 (pos 0)) ≡ None
drop_moves_nothing = refl

-- a packet counts at the moment of its SYN_REPORT, or at that of an earlier packet if that is later, even one that
-- moves nothing
abbrev report : ℕ → RawEvent
report moment = record { device = 1; moment = moment; kind = 0; code = 0; value = pos 0 }

pub late_packet : motion_of (event 2 0 (pos 7) ∷ report 9000 ∷ []) (report 6000) ≡ Some (Moved 9000 (pos 7) (pos 0))
late_packet = refl

-- the SYN_REPORT that ends void events does not end a packet
pub void_end : latest (report 9000 ∷ event 0 3 (pos 0) ∷ report 4000 ∷ []) ≡ 4000
void_end = refl

-- sums saturate
pub sum_at_its_end : summed 0 (event 2 0 (pos 1)) (pos 9223372036854775807) ≡ pos 9223372036854775807
sum_at_its_end = refl

pub sum_at_its_low_end : summed 0 (event 2 0 (negsuc 2147483647)) (negsuc 9223372036854775807) ≡ negsuc 9223372036854775807
sum_at_its_low_end = refl
