-- How a message, the section of a channel and an ANR are spelled.
use Rattle.std.specs.Prelude.{codes, ℕ, ℤ, ◌==◌, nat_eq, bit_and, not, Bool, cond, List, [], ◌∷◌, ◌++◌}
use Rattle.std.specs.Fmt.{decimal, signed_decimal}
use Rattle.input_types.specs.declared.pointer.Pointer.{Pointer}
use Rattle.input_types.specs.declared.motion.Motion.{Motion}
use Rattle.input_types.specs.declared.motion.MotionAction.{MotionAction}
use Rattle.input_types.specs.declared.motion.MotionAction.TheVariants.{Down, Up, Move, Cancel, Outside, PointerDown, PointerUp}
use Rattle.input_types.specs.Gestures.{flag_obscured, flag_partly, unmarked}
use Rattle.input_types.specs.declared.message.Body.{Body}
use Rattle.input_types.specs.declared.message.Body.TheVariants.{Motion as MotionBody, Key, Focus}
use Rattle.input_types.specs.declared.message.Message.{Message}
use Rattle.dispatch_calls.specs.declared.counts.Counts.{Counts}
-- how a number is written behind some words
unfoldable pub use Rattle.text_lines.specs.Written.{labeled}

-- ` canceled` where the flags are FLAG_CANCELED
abbrev pub canceled : ℕ → List ℕ
canceled flags = cond (nat_eq flags 32) (codes " canceled") []

-- a flag is set
abbrev pub has_flag : ℕ → ℕ → Bool
has_flag flag flags = not (bit_and flags flag == 0)

-- a word if it stands there
abbrev pub word_if : Bool → List ℕ → List ℕ
word_if b word = cond b word []

-- the words of a motion's flags: ` canceled`, and its marks
unfoldable pub flag_words : ℕ → List ℕ
flag_words flags =
    canceled (unmarked flags) ++ word_if (has_flag flag_obscured flags) (codes " obscured") ++ word_if (has_flag flag_partly flags) (codes " partly")

-- the place of the pointer that goes down or up, behind a colon
unfoldable pub indexed : List ℕ → ℕ → List ℕ
indexed name index = name ++ codes ":" ++ decimal index

-- an action; of the two that have an index with it
abbrev pub action : MotionAction → ℕ → List ℕ
action Down index = codes "DOWN"
action Up index = codes "UP"
action Move index = codes "MOVE"
action Cancel index = codes "CANCEL"
action Outside index = codes "OUTSIDE"
action PointerDown index = indexed (codes "POINTER_DOWN") index
action PointerUp index = indexed (codes "POINTER_UP") index

-- a pointer behind a space: its id and where it is
unfoldable pub pointer : ℕ → ℤ → ℤ → List ℕ
pointer id x y = codes " " ++ decimal id ++ codes "@" ++ signed_decimal x ++ codes "," ++ signed_decimal y

-- the pointers of a motion, each behind a space
abbrev pub pointers : List Pointer → List ℕ
pointers [] = []
pointers (p ∷ ps) = pointer p.id p.at.x p.at.y ++ pointers ps

-- `motion`, the device, the action and the pointers
unfoldable pub motion : Motion → List ℕ
motion m = codes "motion " ++ decimal m.device ++ codes " " ++ action m.action m.index ++ flag_words m.flags ++ pointers m.pointers

-- a motion without its pointers
abbrev pub head : Motion → List ℕ
head m = codes "motion " ++ decimal m.device ++ codes " " ++ action m.action m.index ++ flag_words m.flags

-- the last words of a key message: DOWN and the repeat number, or UP, canceled or not, and the repeat number
unfoldable pub key_end : Bool → ℕ → ℕ → List ℕ
key_end down flags repeat = cond down (codes " DOWN ") (codes " UP" ++ canceled flags ++ codes " ") ++ decimal repeat

-- `key`, the device, the scan code, the key code, the meta bits, and how it ends
unfoldable pub key : ℕ → ℕ → ℕ → ℕ → List ℕ
key device scan code meta = labeled (codes "key ") device ++ labeled (codes " ") scan ++ labeled (codes " ") code ++ labeled (codes " ") meta

-- what a message says: a motion, a key, or a change of the focus
abbrev pub body : Body → List ℕ
body (MotionBody m) = motion m
body (Key m) = key m.key.device m.key.scan m.key.code m.key.meta ++ key_end m.key.down m.flags m.repeat
body (Focus b) = cond b (codes "focus 1") (codes "focus 0")

-- the number and the moment of a message
unfoldable pub numbered : ℕ → ℕ → List ℕ
numbered seq moment = decimal seq ++ codes " " ++ decimal moment ++ codes " "

-- the line of a message
abbrev pub message_line : Message → List ℕ
message_line m = numbered m.seq m.moment ++ body m.body ++ codes "\n"

-- the lines of messages, one after the other
abbrev pub message_lines : List Message → List ℕ
message_lines [] = []
message_lines (m ∷ ms) = message_line m ++ message_lines ms

-- the first line of a channel's section
unfoldable pub channel_line : ℕ → List ℕ → List ℕ
channel_line id name = codes "channel " ++ decimal id ++ codes " " ++ name ++ codes "\n"

-- the last line of a channel's section: how many messages were sent, received and finished
unfoldable pub end_line : ℕ → ℕ → ℕ → ℕ → List ℕ
end_line id sent received finished =
    labeled (codes "end ") id ++ labeled (codes " sent ") sent ++ labeled (codes " received ") received ++ labeled (codes " finished ") finished ++ codes "\n"

-- the section of a channel
abbrev pub channel_section : ℕ → List ℕ → List Message → Counts → List ℕ
channel_section id name stream counts = channel_line id name ++ message_lines stream ++ end_line id counts.sent counts.received counts.finished

-- the line of an ANR: the clock, the channel and its oldest unfinished message
unfoldable pub anr_line : ℕ → ℕ → ℕ → List ℕ
anr_line clock channel seq = labeled (codes "anr ") clock ++ labeled (codes " ") channel ++ labeled (codes " ") seq ++ codes "\n"
