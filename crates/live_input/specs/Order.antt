-- The order in which the messages of all clients are received.
use Rattle.std.specs.Prelude.{ℕ, ◌<◌, ◌^◌, zero, suc, Bool, false, not, ◌&&◌, ◌||◌, ◌==◌, nat_lt, List, length, Option, Some, None, if◌then◌else◌}
use Rattle.input_types.specs.declared.message.Body.{Body}
use Rattle.input_types.specs.declared.message.Body.TheVariants.{Motion as MotionBody, Key, Focus}
use Rattle.input_types.specs.declared.message.Message.{Message}
use Rattle.input_types.specs.declared.motion.MotionAction.{MotionAction}
use Rattle.input_types.specs.declared.motion.MotionAction.TheVariants.{Down, Up, Move, Cancel, Outside, PointerDown, PointerUp}
use Rattle.dispatch_calls.specs.declared.call.Call.TheVariants.{Receive}
use Rattle.dispatch_history.specs.Effect.{Effect, past_of}
use Rattle.dispatch_history.specs.History.{opened}
use Rattle.dispatch_history.specs.Reply.{reply_to}
use Rattle.dispatcher.specs.Access.{got}
use Rattle.dispatcher.specs.Dispatching.{Dispatching, StandsFor}
use Rattle.live_input.specs.declared.next_any.First.{First}
use Rattle.live_input.specs.declared.next_any.Place.{Place}
use Rattle.live_input.specs.declared.steps.Steps.{Steps}
use Rattle.live_input.specs.Steps.{StepsAre, published_at}

-- a pointer, or all of them, ends by a motion; or they go on; or one begins
abbrev pub motion_rank : MotionAction → ℕ
motion_rank Up = 0
motion_rank PointerUp = 0
motion_rank Cancel = 0
motion_rank Move = 1
motion_rank Outside = 1
motion_rank Down = 2
motion_rank PointerDown = 2

-- Within a step motions come before keys, and keys before the focus; of each, what ends comes before what begins.
abbrev pub rank : Body → ℕ
rank (MotionBody m) = motion_rank m.action
rank (Key k) = if k.key.down then 4 else 3
rank (Focus has) = if has then 6 else 5

-- where a message of a channel stands: at the step at which it was published, by its rank
abbrev pub placed : List Effect → ℕ → Option Message → Option Place
placed es c None = None
placed es c (Some m) = Some (record { step = published_at es c m.seq; rank = rank m.body })

-- where the next message of a channel stands, if its owner may receive one now
abbrev pub place : List Effect → ℕ → Option Place
place es c = placed es c (got (reply_to es (Receive c)))

-- a place comes before another: it is of an earlier step, or of the same one and of a lesser rank
abbrev pub is_before : Place → Place → Bool
is_before p q = nat_lt p.step q.step || p.step == q.step && nat_lt p.rank q.rank

-- the one of two channels whose next message comes first; at equal places it is the first one
abbrev pub sooner : Option First → (channel : ℕ) → Option Place → Option First
sooner first c None = first
sooner None c (Some p) = Some (record { channel = c; place = p })
sooner (Some f) c (Some p) = if is_before p f.place then Some (record { channel = c; place = p }) else Some f

-- of the first n channels, the one whose next message comes first, and where that stands
abbrev pub first_of : List Effect → ℕ → Option First
first_of es zero = None
first_of es (suc n) = sooner (first_of es n) (suc n) (place es (suc n))

-- the channel whose next message is received next
abbrev pub next_any : List Effect → Option First
next_any es = first_of es (opened (past_of es))

-- a place is of the same step as the one that comes first
abbrev pub same_step : Place → Option First → Bool
same_step p None = false
same_step p (Some f) = p.step == f.place.step

-- a message is the last of its step that is left to receive, if the history after it is this one
abbrev pub is_last : List Effect → First → Bool
is_last after f = not (same_step f.place (next_any after))

-- what is kept stands for a history whose steps can be counted in 64 bits
pub record IsReady (es : List Effect) (d : Dispatching) (s : Steps) : Type 0 where
  pub stands : StandsFor es d
  pub steps_are : StepsAre es s
  pub counted : length es < 2 ^ 64
