-- What a step did. A history has a list of effects, one a step, newest first.
use Rattle.std.specs.Prelude.{ℕ, ◌+◌, ◌==◌, Bool, false, if◌then◌else◌, length, List, [], ◌∷◌, map, filter, Option, Some, None, option_and_then, unwrap_or}
use Rattle.input_types.specs.declared.message.Args.{Args}
use Rattle.input_types.specs.declared.message.Args.TheVariants.{Motion as MotionArgs}
use Rattle.input_types.specs.declared.message.Body.{Body}
use Rattle.input_types.specs.declared.message.Body.TheVariants.{Motion as MotionBody, Focus as FocusBody}
use Rattle.input_types.specs.DeviceRule.{device_state, nothing_down}
use Rattle.input_types.specs.Gestures.{after_sent, allowed, differ}
use Rattle.input_types.specs.declared.message.Message.{Message}
use Rattle.input_types.specs.declared.pointer.Pointer.{Pointer}
use Rattle.routing_rules.specs.Marks.{Mark}
use Rattle.dispatch_history.specs.History.{History, clock}

-- one body that is sent to a channel
pub record Outgoing : Type 0 where
  pub channel : ℕ
  pub body : Body

-- the effect of a step
pub record Effect : Type 0 where
  -- the history up to the step, with it
  pub past : History
  -- the args that it dispatched
  pub args : Option Args
  -- the pointers that it gave, and those that it took
  pub mark : Mark
  -- what it sent, channel by channel
  pub outgoing : List Outgoing

-- the history of which these are the effects
abbrev pub past_of : List Effect → History
past_of [] = []
past_of (x ∷ before) = x.past

-- what a step dispatched, in front of what was dispatched earlier
abbrev pub with_args : Option Args → List Args → List Args
with_args None before = before
with_args (Some args) before = args ∷ before

-- all args that were dispatched, newest first
abbrev pub dispatched : List Effect → List Args
dispatched [] = []
dispatched (x ∷ before) = with_args x.args (dispatched before)

-- what a step sent to a channel
abbrev pub sent_to : List Outgoing → ℕ → List Body
sent_to ts c = map (λ t. t.body) (filter (λ t. t.channel == c) ts)

-- messages appended to a stream, newest first: each has the next number, and all have the clock after the step
abbrev pub sent_on : ℕ → List Body → List Message → List Message
sent_on now [] stream = stream
sent_on now (b ∷ bs) stream = sent_on now bs (record { seq = 1 + length stream; moment = now; body = b } ∷ stream)

-- the stream of a channel: all that it was sent, newest first
abbrev pub stream : List Effect → ℕ → List Message
stream [] c = []
stream (x ∷ before) c = sent_on (clock x.past) (sent_to x.outgoing c) (stream before c)

-- a motion of the device replaces the list of its pointers
abbrev pub last_after : Option Args → ℕ → List Pointer → List Pointer
last_after (Some (MotionArgs m)) d before = if m.device == d then m.pointers else before
last_after args d before = before

-- the pointers of a device at the positions that its last motion listed; none before its first motion
abbrev pub last : List Effect → ℕ → List Pointer
last [] d = []
last (x ∷ before) d = last_after x.args d (last before d)

-- the ids that are down on a device according to the dispatched args
abbrev pub down_ids : List Effect → ℕ → List ℕ
down_ids es d = (unwrap_or (device_state d (dispatched es)) nothing_down).ids

-- a key is down on a device according to the dispatched args
abbrev pub is_key_down : List Effect → ℕ → ℕ → Bool
is_key_down es d s = (unwrap_or (device_state d (dispatched es)) nothing_down).keys s

-- how a message changes the ids of a device that are known to be down; None unless it may come
abbrev pub ids_after : ℕ → Body → Option (List ℕ) → Option (List ℕ)
ids_after d (MotionBody m) ids = if m.device == d then option_and_then (λ down. after_sent down m) ids else ids
ids_after d body ids = ids

-- the ids of a device that the owner of a channel knows to be down after its messages; None unless each of its
-- motions may come
abbrev pub sent_down : ℕ → List Message → Option (List ℕ)
sent_down d [] = Some []
sent_down d (m ∷ past) = ids_after d m.body (sent_down d past)

-- how a message changes the focus that is known; None unless it may come
abbrev pub focus_after : Body → Option Bool → Option Bool
focus_after (FocusBody b) x = option_and_then (λ has. allowed (differ b has) b) x
focus_after body x = x

-- whether the owner of a channel knows that it has the focus after its messages; None unless each change of it may come
abbrev pub sent_focus : List Message → Option Bool
sent_focus [] = Some false
sent_focus (m ∷ past) = focus_after m.body (sent_focus past)
