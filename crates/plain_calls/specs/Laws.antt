-- What is written as numbers reads back unchanged.
use Rattle.std.specs.Prelude.{◌≡◌, ℕ, ◌+◌, ◌≤◌, ◌^◌, true, List, [], ◌∷◌, length, Some, ⊤}
use Rattle.input_types.specs.declared.message.Body.{Body}
use Rattle.input_types.specs.declared.message.Body.TheVariants.{Motion as MotionBody, Key, Focus}
use Rattle.input_types.specs.declared.message.Message.{Message}
use Rattle.input_types.specs.declared.motion.Motion.{Motion}
use Rattle.input_types.specs.declared.pointer.Pointer.{Pointer}
use Rattle.gesture_verifier.specs.Told.{is_device}
use Rattle.plain_calls.specs.Plain.{message_of}
use Rattle.plain_calls.specs.Told.{plain_message}

-- ids that rise from `least` on, up to 31
abbrev pub HaveIds : ℕ → List Pointer → Type 0
HaveIds least [] = ⊤
HaveIds least (p ∷ ps) = (least ≤ p.id) × (p.id ≤ 31) × HaveIds (p.id + 1) ps

-- a motion of a device, of at most 16 pointers with rising ids
pub record IsMotion (m : Motion) : Type 0 where
  pub device : is_device m.device ≡ true
  pub count : length m.pointers ≤ 16
  pub ids : HaveIds 0 m.pointers

-- the numbers of a message's body are in their ranges
abbrev pub IsBody : Body → Type 0
IsBody (MotionBody m) = IsMotion m
IsBody (Key k) = is_device k.key.device ≡ true
IsBody (Focus has) = ⊤

-- the numbers of a message are in their ranges, as the types of input_types have them
pub record IsMessage (m : Message) : Type 0 where
  pub moment : m.moment ≤ 10 ^ 18
  pub body : IsBody m.body

-- A message written as numbers and handed in again is the same message: nothing of it is lost, and no two messages
-- have the same numbers.
abbrev pub ReadAgainLaw : Type 0
ReadAgainLaw = (m : Message) → IsMessage m → message_of (plain_message m) ≡ Some m
