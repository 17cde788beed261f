-- Windows, motions, calls and messages for the worked examples. Lists of calls and messages are in order here, oldest
-- first.
use Rattle.std.specs.Prelude.{ℕ, pos, Bool, List, [], ◌∷◌, map, reverse, replicate, Some}
use Rattle.touch_region.specs.declared.rectangle.Rect.{Rect}
use Rattle.window_snapshot.specs.declared.occlusion.Occlusion.TheVariants.{Block}
use Rattle.window_snapshot.specs.declared.window.Window.{Window}
use Rattle.input_types.specs.declared.key.KeyArgs.{KeyArgs}
use Rattle.input_types.specs.declared.message.Args.{Args}
use Rattle.input_types.specs.declared.message.Args.TheVariants.{Motion as MotionArgs}
use Rattle.input_types.specs.declared.message.Body.TheVariants.{Motion as MotionBody, Key as KeyBody, Focus}
use Rattle.input_types.specs.declared.message.Message.{Message}
use Rattle.input_types.specs.declared.motion.Motion.{Motion}
use Rattle.input_types.specs.declared.motion.MotionAction.{MotionAction}
use Rattle.input_types.specs.declared.pointer.Pointer.{Pointer}
use Rattle.dispatch_calls.specs.declared.call.Call.{Call}
use Rattle.dispatch_calls.specs.declared.call.Call.TheVariants.{Open, Notify, Pump}
use Rattle.dispatch_calls.specs.declared.reply.Reply.{Reply}
use Rattle.dispatch_calls.specs.declared.terms.Terms.{Terms}
use Rattle.key_repeat.specs.Due.{android_delays}
use Rattle.dispatch_history.specs.Effect.{stream}
use Rattle.dispatch_history.specs.Legal.{run, replay}

abbrev pub rectangle : (left top right bottom : ℕ) → Rect
rectangle l t r b = record { left = pos l; top = pos t; right = pos r; bottom = pos b }

-- a window whose frame begins at the corner of the display
abbrev pub window_of : (channel flags : ℕ) → List Rect → Window
window_of c f region = record { channel = c; frame = rectangle 0 0 0 0; region = region; flags = record { bits = f }; display = 0; owner = 0; opacity = 100; occlusion = Block }

-- a window whose region is its frame
abbrev pub window : (channel flags left top right bottom : ℕ) → Window
window c f l t r b =
    record { channel = c; frame = rectangle l t r b; region = rectangle l t r b ∷ []; flags = record { bits = f }; display = 0; owner = 0; opacity = 100; occlusion = Block }

-- pointer i at a place
abbrev pub at : ℕ → ℕ → ℕ → Pointer
at i x y = record { id = i; at = record { x = pos x; y = pos y } }

-- a motion of device 1, and the same with FLAG_CANCELED
abbrev pub motion : MotionAction → ℕ → List Pointer → Motion
motion action index ps = record { device = 1; action = action; index = index; flags = 0; pointers = ps }

abbrev pub cancelled : MotionAction → ℕ → List Pointer → Motion
cancelled action index ps = record { device = 1; action = action; index = index; flags = 0x20; pointers = ps }

-- args that are notified and pumped at a moment
abbrev pub dispatch : ℕ → Args → List Call
dispatch now args = Notify now args ∷ Pump now ∷ []

-- a motion that is notified and pumped at a moment
abbrev pub moved : ℕ → MotionAction → ℕ → List Pointer → List Call
moved now action index ps = dispatch now (MotionArgs (motion action index ps))

-- the messages of a stream by their numbers and moments
abbrev pub says : ℕ → ℕ → Motion → Message
says seq now m = record { seq = seq; moment = now; body = MotionBody m }

-- a key of device 1 without meta bits
abbrev pub key : ℕ → ℕ → Bool → KeyArgs
key scan code down = record { device = 1; scan = scan; code = code; meta = 0; down = down }

-- messages of keys, with flags and repeat number, and of the focus
abbrev pub keyed : ℕ → ℕ → KeyArgs → ℕ → ℕ → Message
keyed seq now k flags repeat = record { seq = seq; moment = now; body = KeyBody (record { key = k; flags = flags; repeat = repeat }) }

abbrev pub focused : ℕ → ℕ → Bool → Message
focused seq now has = record { seq = seq; moment = now; body = Focus has }

-- the same window on another display, and the same motion of another device
abbrev pub on : ℕ → Window → Window
on y v = record v { display = y }

abbrev pub of : ℕ → Motion → Motion
of d m = record m { device = d }

-- what channels are opened with unless a row says otherwise: a limit of five seconds, and Android's repeats
abbrev pub usual : Terms
usual = record { limit = 5000000; repeats = Some android_delays }

-- channels 1 and 2 are opened
abbrev pub open_two : List Call
open_two = Open usual ∷ Open usual ∷ []

-- all devices are on display 0; and device 2 is on display 1
abbrev pub one_display : List ℕ
one_display = replicate 8 0

abbrev pub two_displays : List ℕ
two_displays = 0 ∷ 1 ∷ replicate 6 0

-- the stream of a channel after the replay of some calls, and the replies to them, where the devices are on these displays
abbrev pub stream_on : List ℕ → List Call → ℕ → List Message
stream_on displays calls c = reverse (stream (run displays (reverse calls)) c)

abbrev pub replies_on : List ℕ → List Call → List Reply
replies_on displays calls = map (λ e. e.1) (reverse (replay displays (reverse calls)))

-- the same where all devices are on display 0
abbrev pub stream_of : List Call → ℕ → List Message
stream_of calls c = stream_on one_display calls c

abbrev pub replies_of : List Call → List Reply
replies_of calls = replies_on one_display calls
