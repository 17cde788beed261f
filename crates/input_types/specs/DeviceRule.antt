-- The rule that the args of one device follow.
use Rattle.std.specs.Prelude.{ℕ, nat_eq, Bool, true, false, List, [], ◌∷◌, length, Option, Some, None, if◌then◌else◌}
use Rattle.std.specs.Option.{option_map, option_and_then}
use Rattle.input_types.specs.declared.motion.MotionAction.{MotionAction}
use Rattle.input_types.specs.declared.motion.MotionAction.TheVariants.{Cancel, Outside}
use Rattle.input_types.specs.declared.message.Args.{Args}
use Rattle.input_types.specs.declared.message.Args.TheVariants.{Motion as MotionArgs, Key, Reset}
use Rattle.input_types.specs.Gestures.{after_motion, allowed, differ}

-- what is down on a device: the ids of its pointers in rising order, and its keys by their scan code
pub record DeviceState : Type 0 where
  pub ids : List ℕ
  pub keys : ℕ → Bool

-- nothing is down
abbrev pub nothing_down : DeviceState
nothing_down = record { ids = []; keys = λ _. false }

-- A device itself makes this action with so many pointers: a Cancel only for its last pointer, such as one that
-- became a palm, and never an Outside.
abbrev pub is_of_device : MotionAction → ℕ → Bool
is_of_device Cancel n = nat_eq n 1
is_of_device Outside _ = false
is_of_device _ _ = true

-- the keys that are down once `scan` is
abbrev pub with_key : (ℕ → Bool) → ℕ → Bool → ℕ → Bool
with_key keys scan down s = if nat_eq s scan then down else keys s

-- What is down on a device after its next args, or None if they may not come: a motion of a device by the table of
-- motions, a key goes down only if it is up, and up only if it is down, and a reset may come at any time and leaves
-- nothing down.
abbrev pub after_args : DeviceState → Args → Option DeviceState
after_args s (MotionArgs m) =
    if is_of_device m.action (length m.pointers) then option_map (λ ids. record { ids = ids; keys = s.keys }) (after_motion s.ids m) else None
after_args s (Key k) = allowed (differ k.down (s.keys k.scan)) (record { ids = s.ids; keys = with_key s.keys k.scan k.down })
after_args s (Reset d) = Some nothing_down

-- the device of some args
abbrev pub device_of : Args → ℕ
device_of (MotionArgs m) = m.device
device_of (Key k) = k.device
device_of (Reset d) = d

-- what is down on device `d` after a list of args, newest first; None if some args of it were not allowed when they
-- came
abbrev pub device_state : ℕ → List Args → Option DeviceState
device_state d [] = Some nothing_down
device_state d (a ∷ past) =
    if nat_eq (device_of a) d then option_and_then (λ s. after_args s a) (device_state d past) else device_state d past
