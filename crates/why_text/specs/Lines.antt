-- The lines of one step, each without the clock in front of it and without its newline.
use Rattle.std.specs.Prelude.{codes, ℕ, Bool, not, ◌==◌, ◌&&◌, ◌||◌, if◌then◌else◌, List, [], ◌∷◌, ◌++◌, map, flat_map, Option, Some, None}
use Rattle.std.specs.List.{list_any}
use Rattle.std.specs.Fmt.{decimal, signed_decimal}
use Rattle.input_types.specs.declared.key.KeyArgs.{KeyArgs}
use Rattle.input_types.specs.declared.key.KeyMsg.{KeyMsg}
use Rattle.input_types.specs.declared.message.Args.{Args}
use Rattle.input_types.specs.declared.message.Args.TheVariants.{Motion as MotionArgs, Key as KeyOfDevice, Reset}
use Rattle.input_types.specs.declared.message.Message.{Message}
use Rattle.input_types.specs.declared.motion.Motion.{Motion}
use Rattle.input_types.specs.declared.pointer.Pointer.{Pointer}
use Rattle.key_repeat.specs.Due.{Sent, repeated}
use Rattle.window_snapshot.specs.declared.window.Window.{Window}
use Rattle.window_snapshot.specs.Mask.{mask_has}
use Rattle.dispatch_calls.specs.declared.call.Call.{Call}
use Rattle.dispatch_calls.specs.declared.call.Call.TheVariants.{Windows, FocusOn, Pump, Tick, Finish, Pilfer, Remove}
use Rattle.dispatch_calls.specs.declared.reply.Reply.{Reply}
use Rattle.dispatch_calls.specs.declared.reply.Reply.TheVariants.{Done, Dispatched, Repeated, Named, Gone, NotSpy, NothingHeld}
use Rattle.routing_rules.specs.Taking.{takes, Pilfered}
use Rattle.routing_rules.specs.Scene.{Scene}
use Rattle.routing_rules.specs.Slip.{Slip, slip}
use Rattle.routing_rules.specs.Given.{changed}
use Rattle.routing_rules.specs.Outgoing.{is_up, is_down, is_cancelled}
use Rattle.dispatch_history.specs.Effect.{Effect, past_of}
use Rattle.dispatch_history.specs.Delivery.{oldest, unresponsive}
use Rattle.dispatch_history.specs.Focus.{key_target}
use Rattle.dispatch_history.specs.Keys.{keys, same_key}
use Rattle.dispatch_history.specs.KeySent.{last_key}
use Rattle.dispatch_history.specs.Step.{scene}
use Rattle.why_text.specs.Words.{set_word, channel_word, channels_that, some_window_word, window_word, windows_word, ids_that, row_word}
use Rattle.why_text.specs.Down.{Down, down_of}
use Rattle.why_text.specs.Lost.{lost_word, losers}

-- a window of a snapshot after a space: its channel or `wall`, its display and its frame
abbrev pub window_words : Window → List ℕ
window_words v =
    codes " " ++ window_word v.channel ++ codes "@" ++ decimal v.display ++ codes ":" ++ signed_decimal v.frame.left ++ codes ","
    ++ signed_decimal v.frame.top ++ codes "," ++ signed_decimal v.frame.right ++ codes "," ++ signed_decimal v.frame.bottom

-- a snapshot, window by window
abbrev pub snapshot_words : List Window → List ℕ
snapshot_words ws = codes "windows" ++ flat_map window_words ws

-- a window that loses this
abbrev pub gone_word : ℕ → (lost : List ℕ) → List ℕ
gone_word w lost = codes "gone " ++ decimal w ++ codes " " ++ lost

-- each window that loses something is gone with it
abbrev pub gone_words : Effect → List Effect → List (List ℕ)
gone_words x before = map (λ w. gone_word w (lost_word x before w)) (losers x before)

-- a pointer of a device with its position on the display
abbrev pub pointer_words : ℕ → Pointer → List ℕ
pointer_words d p = decimal d ++ codes " " ++ decimal p.id ++ codes " " ++ signed_decimal p.at.x ++ codes "," ++ signed_decimal p.at.y

-- the window under the position, and the choice with its row
abbrev pub choice_words : Down → List ℕ
choice_words k =
    codes " touched " ++ some_window_word k.touched ++ codes " row " ++ row_word k.choice.row ++ codes " chosen " ++ some_window_word k.choice.window

-- the sets of windows
abbrev pub sets_words : Down → List ℕ
sets_words k =
    codes " spies " ++ windows_word k.spies ++ codes " pilfering " ++ windows_word k.pilfering ++ codes " given " ++ windows_word k.given ++ codes " mute "
    ++ windows_word k.mute ++ codes " outside " ++ windows_word k.outside

-- `wall` after a space, if a wall is one of them
abbrev pub wall_word : Bool → List ℕ
wall_word wall = if wall then codes " wall" else []

-- a window that is blocked, with those that block it
abbrev pub blocked_word : (blockers : ℕ → ℕ → Bool) → (walled : ℕ → Bool) → ℕ → List ℕ
blocked_word blockers walled w = codes " blocked " ++ decimal w ++ codes " by " ++ windows_word (blockers w) ++ wall_word (walled w)

-- the windows that are blocked, in rising order
abbrev pub blocked_words : (blocked : ℕ → Bool) → (blockers : ℕ → ℕ → Bool) → (walled : ℕ → Bool) → List ℕ
blocked_words blocked blockers walled = flat_map (blocked_word blockers walled) (channels_that blocked)

-- a pointer goes down, with the causes
abbrev pub down_words : ℕ → Pointer → Down → List ℕ
down_words d p k = codes "down " ++ pointer_words d p ++ choice_words k ++ sets_words k ++ blocked_words k.blocked k.blockers k.walled

-- a pointer slips from one window to another
abbrev pub slip_word : ℕ → Pointer → (from to : ℕ) → List ℕ
slip_word d p from to = codes "slip " ++ pointer_words d p ++ codes " from " ++ decimal from ++ codes " to " ++ decimal to

-- a pointer that may slip
abbrev pub slip_words : ℕ → Pointer → Option Slip → List (List ℕ)
slip_words d p None = []
slip_words d p (Some way) = slip_word d p way.from way.to ∷ []

-- a pointer goes up, or is found to be of a palm, with the windows that held it
abbrev pub up_words : (cancelled : Bool) → ℕ → ℕ → (ℕ → Bool) → List ℕ
up_words cancelled d i held =
    (if cancelled then codes "palm " else codes "up ") ++ decimal d ++ codes " " ++ decimal i ++ codes " from " ++ windows_word held

-- a motion of a device, with its changed pointer: a down, an up, or a move with which a pointer slips
abbrev pub motion_words : Scene → Motion → Option Pointer → List (List ℕ)
motion_words s m None = []
motion_words s m (Some p) =
    if is_down m.action then down_words m.device p (down_of s m p) ∷ []
    else if is_up m.action then up_words (is_cancelled m.action m.flags) m.device p.id (λ w. s.holds w m.device p.id) ∷ []
    else slip_words m.device p (slip s m)

-- the windows that hold a key
abbrev pub key_holders : List Effect → KeyArgs → List ℕ
key_holders es k = channels_that (λ w. list_any (same_key k) (keys es w))

-- the first of some channels
abbrev pub first_of : List ℕ → Option ℕ
first_of [] = None
first_of (c ∷ cs) = Some c

-- a key by its device and its scan code
abbrev pub key_words : KeyArgs → List ℕ
key_words k = codes "key " ++ decimal k.device ++ codes " " ++ decimal k.scan

-- a key goes down, with the key target and the window that comes to hold it
abbrev pub key_down_word : KeyArgs → (target given : Option ℕ) → List ℕ
key_down_word k target given = key_words k ++ codes " down target " ++ channel_word target ++ codes " given " ++ channel_word given

-- a key goes up, with the window that held it
abbrev pub key_up_word : KeyArgs → (from : Option ℕ) → List ℕ
key_up_word k from = key_words k ++ codes " up from " ++ channel_word from

-- a key, with the windows that hold it before and after
abbrev pub key_line : KeyArgs → Effect → List Effect → List ℕ
key_line k x before =
    if k.down then key_down_word k (key_target (past_of before)) (first_of (key_holders (x ∷ before) k))
    else key_up_word k (first_of (key_holders before k))

-- a device is reset, with these windows
abbrev pub reset_word : ℕ → (ℕ → Bool) → List ℕ
reset_word d held = codes "reset " ++ decimal d ++ codes " from " ++ windows_word held

-- the windows are those that held a pointer or a key of it
abbrev pub reset_words : ℕ → Scene → List Effect → List ℕ
reset_words d s before = reset_word d (λ w. s.any w d || list_any (λ k. k.device == d) (keys before w))

-- the lines of a step that dispatches args
abbrev pub args_words : List ℕ → Option Args → Effect → List Effect → List (List ℕ)
args_words displays None x before = []
args_words displays (Some (MotionArgs m)) x before = motion_words (scene displays before) m (changed m)
args_words displays (Some (KeyOfDevice k)) x before = key_line k x before ∷ []
args_words displays (Some (Reset d)) x before = reset_words d (scene displays before) before ∷ []

-- a key is repeated for the window that holds it
abbrev pub repeat_word : KeyMsg → (window : ℕ) → List ℕ
repeat_word m window = key_words m.key ++ codes " repeat " ++ decimal m.repeat ++ codes " to " ++ decimal window

-- the last key, repeated
abbrev pub repeat_words : Option Sent → List (List ℕ)
repeat_words None = []
repeat_words (Some s) = repeat_word (repeated s.key) s.channel ∷ []

-- ids that a spy takes, and the windows that lose some of them
abbrev pub taken_word : (ids : List ℕ) → (ℕ → Bool) → List ℕ
taken_word ids losers = set_word ids ++ codes " from " ++ windows_word losers

-- a pilfer: the ids that the spy holds, and the windows that lose some of them
abbrev pub pilfer_done : Scene → ℕ → ℕ → List ℕ
pilfer_done s c d =
    let ids = ids_that (s.holds c d) in taken_word ids (λ w. list_any (λ i. s.holds w d i && takes (Pilfered c d (s.holds c d)) w d i) ids)

-- its reply, if it is refused
abbrev pub refusal_word : Reply → List ℕ
refusal_word Gone = codes "Gone"
refusal_word NotSpy = codes "NotSpy"
refusal_word NothingHeld = codes "NothingHeld"
refusal_word reply = []

-- a pilfer by a window of a device, and its result
abbrev pub pilfer_word : ℕ → ℕ → (what : List ℕ) → List ℕ
pilfer_word c d what = codes "pilfer " ++ decimal c ++ codes " " ++ decimal d ++ codes " " ++ what

-- the result is what it took, or the reply
abbrev pub pilfer_words : Reply → Scene → ℕ → ℕ → List ℕ
pilfer_words Done s c d = pilfer_word c d (pilfer_done s c d)
pilfer_words reply s c d = pilfer_word c d (refusal_word reply)

-- the number of a message, if there is one
abbrev pub seq_word : Option Message → List ℕ
seq_word None = []
seq_word (Some m) = decimal m.seq

-- a window is reported unresponsive, with the number of a message, and what it loses
abbrev pub timeout_word : ℕ → (seq lost : List ℕ) → List ℕ
timeout_word c seq lost = codes "timeout " ++ decimal c ++ codes " " ++ seq ++ codes " " ++ lost

-- the message is its oldest published and unfinished one
abbrev pub timeout_words : Effect → List Effect → ℕ → List ℕ
timeout_words x before c = timeout_word c (seq_word (oldest before c)) (lost_word x before c)

-- a window is removed, with what it loses
abbrev pub removed_word : ℕ → (lost : List ℕ) → List ℕ
removed_word c lost = codes "removed " ++ decimal c ++ codes " " ++ lost

-- a removed channel loses everything, if it was open
abbrev pub removed_words : Reply → Effect → List Effect → ℕ → List ℕ
removed_words Done x before c = removed_word c (lost_word x before c)
removed_words reply x before c = removed_word c (codes "Gone")

-- a window responds again
abbrev pub responsive_word : ℕ → List ℕ
responsive_word c = codes "responsive " ++ decimal c

-- a finish after which the channel is responsive and before which it was not
abbrev pub finish_words : Effect → List Effect → ℕ → List (List ℕ)
finish_words x before c = if unresponsive before c && not (unresponsive (x ∷ before) c) then responsive_word c ∷ [] else []

-- the focus of a display is requested
abbrev pub request_word : (display : ℕ) → Option ℕ → List ℕ
request_word display c = codes "request " ++ decimal display ++ codes " " ++ channel_word c

-- The lines of a step with this call and reply.
abbrev pub call_words : List ℕ → Call → Reply → Effect → List Effect → List (List ℕ)
call_words displays (Windows now ws) reply x before = snapshot_words ws ∷ gone_words x before
call_words displays (FocusOn now y c keys) reply x before = request_word y c ∷ gone_words x before
call_words displays (Pump now) Dispatched x before = args_words displays x.args x before
call_words displays (Pump now) Repeated x before = repeat_words (last_key before)
call_words displays (Tick now) (Named mask) x before = map (timeout_words x before) (channels_that (mask_has mask))
call_words displays (Finish now c seq) Done x before = finish_words x before c
call_words displays (Pilfer now c d) reply x before = pilfer_words reply (scene displays before) c d ∷ []
call_words displays (Remove now c) reply x before = removed_words reply x before c ∷ []
call_words displays call reply x before = []
