-- What the owner of a channel knows from its messages, newest first, if each of them may come.
use Rattle.std.specs.Prelude.{ℕ, ◌+◌, ◌==◌, ◌&&◌, ◌≡◌, ◌≤◌, Bool, true, false, not, List, [], ◌∷◌, length, filter, Option, Some, None, option_and_then, if◌then◌else◌}
use Rattle.std.specs.List.{find, list_any}
use Rattle.input_types.specs.declared.key.KeyArgs.{KeyArgs}
use Rattle.input_types.specs.declared.key.KeyMsg.{KeyMsg}
use Rattle.input_types.specs.declared.message.Body.{Body}
use Rattle.input_types.specs.declared.message.Body.TheVariants.{Motion as MotionBody, Key as KeyBody}
use Rattle.input_types.specs.declared.message.Message.{Message}
use Rattle.input_types.specs.declared.motion.Motion.{Motion}
use Rattle.input_types.specs.declared.motion.MotionAction.{MotionAction}
use Rattle.input_types.specs.declared.motion.MotionAction.TheVariants.{Up, Cancel, PointerUp}
use Rattle.input_types.specs.declared.pointer.Pointer.{Pointer}
use Rattle.input_types.specs.Gestures.{allowed}
use Rattle.input_types.specs.StreamRule.{StreamState, after_key}
use Rattle.routing_rules.specs.Given.{changed}
use Rattle.routing_rules.specs.Pairs.{has}
use Rattle.routing_rules.specs.Marks.{held}
use Rattle.routing_rules.specs.Outgoing.{devices, is_down}
use Rattle.dispatch_history.specs.PointerOf.{is_of}
use Rattle.dispatch_history.specs.Effect.{Effect, past_of, stream, down_ids}
use Rattle.dispatch_history.specs.Focus.{has_focus}
use Rattle.dispatch_history.specs.Keys.{keys}
use Rattle.dispatch_history.specs.Step.{marks}

-- the key has this device and scan code
abbrev pub is_key : ℕ → ℕ → KeyArgs → Bool
is_key d s k = d == k.device && s == k.scan

-- a key message of the key becomes its last one
abbrev pub last_message_after : ℕ → ℕ → Body → Option KeyMsg → Option KeyMsg
last_message_after d s (KeyBody m) before = if is_key d s m.key then Some m else before
last_message_after d s body before = before

-- the last message of a key, if there was one
abbrev pub last_message : ℕ → ℕ → List Message → Option KeyMsg
last_message d s [] = None
last_message d s (m ∷ past) = last_message_after d s m.body (last_message d s past)

-- how a message changes the next repeat number that is known for a key; None unless it may come
abbrev pub repeat_after : ℕ → ℕ → Body → Option (Option ℕ) → Option (Option ℕ)
repeat_after d s (KeyBody m) x = if is_key d s m.key then option_and_then (λ due. after_key due m) x else x
repeat_after d s body x = x

-- the next repeat number of a key that the owner of a channel knows to be down; None unless each message of the key
-- may come
abbrev pub sent_repeat : ℕ → ℕ → List Message → Option (Option ℕ)
sent_repeat d s [] = Some None
sent_repeat d s (m ∷ past) = repeat_after d s m.body (sent_repeat d s past)

-- the key of this device and scan code among those that a window holds
abbrev pub held_key : List KeyArgs → ℕ → ℕ → Option KeyArgs
held_key ks d s = find (is_key d s) ks

-- no two of these keys are the same
abbrev pub AllDiffer : List KeyArgs → Type 0
AllDiffer [] = Unit {0}
AllDiffer (k ∷ ks) = (held_key ks k.device k.scan ≡ None) × AllDiffer ks

-- the next repeat number of a key that is held: one more than that of its last message
abbrev pub next_repeat : Option KeyArgs → Option KeyMsg → Option ℕ
next_repeat (Some k) (Some m) = Some (m.repeat + 1)
next_repeat held last = None

-- a key message is the newest one, for any key
abbrev pub newest_key_after : Body → Option KeyMsg → Option KeyMsg
newest_key_after (KeyBody m) before = Some m
newest_key_after body before = before

-- the newest key message, if there was one
abbrev pub newest_key : List Message → Option KeyMsg
newest_key [] = None
newest_key (m ∷ past) = newest_key_after m.body (newest_key past)

-- the ids that are down on a device and that a window holds; none for a number that no device has
abbrev pub held_ids : List Effect → ℕ → ℕ → List ℕ
held_ids es w d = if list_any (λ e. e == d) devices then filter (has (held (marks es)) w d) (down_ids es d) else []

-- what the owner of a live channel must know after a history with these effects: the ids and the keys that its window
-- holds, and whether it is focused
abbrev pub known_state : List Effect → ℕ → StreamState
known_state es w =
    record {
      ids = held_ids es w;
      repeats = λ d s. next_repeat (held_key (keys es w) d s) (last_message d s (stream es w));
      focus = has_focus (past_of es) w;
    }

-- the numbers of messages, newest first, run from 1
abbrev pub IsNumbered : List Message → Type 0
IsNumbered [] = Unit {0}
IsNumbered (m ∷ past) = (m.seq ≡ 1 + length past) × IsNumbered past

-- the moments of messages, newest first, do not fall, and none is above the bound
abbrev pub NeverFalls : ℕ → List Message → Type 0
NeverFalls bound [] = Unit {0}
NeverFalls bound (m ∷ past) = (m.moment ≤ bound) × NeverFalls m.moment past

-- a motion takes the pointer with this id of a device down
abbrev pub takes_down : ℕ → ℕ → Motion → Bool
takes_down d i m = m.device == d && (is_down m.action && is_of (changed m) i)

-- an action that lists these pointers ends the one with this id: it goes up, cancelled or not, or all are cancelled
abbrev pub is_end_of : MotionAction → Option Pointer → List Pointer → ℕ → Bool
is_end_of Up p listed i = is_of p i
is_end_of PointerUp p listed i = is_of p i
is_end_of Cancel p listed i = list_any (λ q. q.id == i) listed
is_end_of _ p listed i = false

-- a motion ends the pointer with this id of a device
abbrev pub ends_it : ℕ → ℕ → Motion → Bool
ends_it d i m = m.device == d && is_end_of m.action (changed m) m.pointers i

-- how a message changes whether a pointer is down: a pointer that is up goes down, and one that is down ends
abbrev pub pointer_after : ℕ → ℕ → Body → Option Bool → Option Bool
pointer_after d i (MotionBody m) x =
    if takes_down d i m then option_and_then (λ is_down. allowed (not is_down) true) x
    else if ends_it d i m then option_and_then (λ is_down. allowed is_down false) x else x
pointer_after d i body x = x

-- whether a pointer is down after messages in which it alternately goes down and ends; None if it does not
abbrev pub sent_pointer : ℕ → ℕ → List Message → Option Bool
sent_pointer d i [] = Some false
sent_pointer d i (m ∷ past) = pointer_after d i m.body (sent_pointer d i past)
