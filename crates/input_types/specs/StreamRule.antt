-- The rule that the messages of a window follow: a well-formed stream.
use Rattle.std.specs.Prelude.{ℕ, ◌+◌, ◌&&◌, nat_eq, Bool, false, List, [], ◌∷◌, Option, Some, None, is_some, if◌then◌else◌}
use Rattle.std.specs.Option.{option_map, option_and_then, unwrap_or}
use Rattle.input_types.specs.declared.key.KeyMsg.{KeyMsg}
use Rattle.input_types.specs.declared.message.Body.{Body}
use Rattle.input_types.specs.declared.message.Body.TheVariants.{Motion as MotionBody, Key, Focus}
use Rattle.input_types.specs.declared.message.Message.{Message}
use Rattle.input_types.specs.Gestures.{after_sent, allowed, differ, is_end_flag}

-- what a window knows from its messages: per device, the ids that are down, in rising order; per device and scan code
-- the next repeat number of a key that is down; and whether it has the focus
pub record StreamState : Type 0 where
  pub ids : ℕ → List ℕ
  pub repeats : ℕ → ℕ → Option ℕ
  pub focus : Bool

-- nothing is down, and there is no focus
abbrev pub unsent : StreamState
unsent = record { ids = λ _. []; repeats = λ _ _. None; focus = false }

-- the next repeat number of a key after a key message, or None if it may not come: a down has the number that is due,
-- 0 if the key is up, and an up ends a key that is down
abbrev pub after_key : Option ℕ → KeyMsg → Option (Option ℕ)
after_key due m =
    if m.key.down then allowed (nat_eq m.flags 0 && nat_eq (unwrap_or due 0) m.repeat) (Some (m.repeat + 1))
    else allowed (is_some due && (is_end_flag m.flags && nat_eq m.repeat 0)) None

-- the ids of one device are these, and those of the others as before
abbrev pub with_ids : (ℕ → List ℕ) → ℕ → List ℕ → ℕ → List ℕ
with_ids table device ids d = if nat_eq d device then ids else table d

-- the next repeat of one key of a device is this, and those of the others as before
abbrev pub with_repeat : (ℕ → ℕ → Option ℕ) → ℕ → ℕ → Option ℕ → ℕ → ℕ → Option ℕ
with_repeat table device scan due d s = if nat_eq d device && nat_eq s scan then due else table d s

-- What a window knows after one more message, or None if it may not come: a motion by the table of motions of its
-- device, which lets it have marks, a key message by its key, or a focus change.
abbrev pub after_body : StreamState → Body → Option StreamState
after_body s (MotionBody m) =
    option_map (λ ids. record { ids = with_ids s.ids m.device ids; repeats = s.repeats; focus = s.focus }) (after_sent (s.ids m.device) m)
after_body s (Key m) =
    option_map (λ due. record { ids = s.ids; repeats = with_repeat s.repeats m.key.device m.key.scan due; focus = s.focus })
    (after_key (s.repeats m.key.device m.key.scan) m)
after_body s (Focus b) = allowed (differ b s.focus) (record { ids = s.ids; repeats = s.repeats; focus = b })

-- what a window knows after a list of messages, newest first; None if one of them was not allowed when it came
abbrev pub stream_state : List Message → Option StreamState
stream_state [] = Some unsent
stream_state (m ∷ past) = option_and_then (λ s. after_body s m.body) (stream_state past)

-- each message of a stream, newest first, was allowed when it came
abbrev pub is_well_formed : List Message → Bool
is_well_formed past = is_some (stream_state past)
