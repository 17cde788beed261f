-- How what a window is sent for a device fits what it was sent before.
use Rattle.std.specs.Prelude.{ℕ, Bool, true, false, ◌==◌, ◌≡◌, List, [], ◌∷◌, length, filter, Option, Some, None, if◌then◌else◌}
use Rattle.std.specs.List.{list_any}
use Rattle.std.specs.Option.{option_and_then}
use Rattle.input_types.specs.declared.motion.Motion.{Motion}
use Rattle.input_types.specs.declared.pointer.Pointer.{Pointer}
use Rattle.input_types.specs.DeviceRule.{is_of_device}
use Rattle.input_types.specs.Gestures.{after_motion, ids_of}
use Rattle.input_types.specs.Pointers.{IsRising}
use Rattle.routing_rules.specs.Scene.{Scene, Step, Moves, Resets, Removes}

-- the ids of a device that a window knows to be down after these motions; None unless each of them may come
abbrev pub sent_ids : List ℕ → List Motion → Option (List ℕ)
sent_ids ids [] = Some ids
sent_ids ids (m ∷ ms) = option_and_then (λ next. sent_ids next ms) (after_motion ids m)

-- the ids that are down on a device after a step; None unless its motion may come
abbrev pub down_after : Step → ℕ → List ℕ → Option (List ℕ)
down_after (Moves m) d down =
    if m.device == d then (if is_of_device m.action (length m.pointers) then after_motion down m else None) else Some down
down_after (Resets e) d down = if e == d then Some [] else Some down
down_after e d down = Some down

-- the ids of the pointers of a step's motion rise
abbrev pub Rises : Step → Type 0
Rises (Moves m) = IsRising m.pointers
Rises e = Unit {0}

-- the step does not remove this window
abbrev pub Leaves : Step → ℕ → Type 0
Leaves (Removes v) w = (w == v) ≡ false
Leaves e w = Unit {0}

-- a scene fits the ids that are down on a device: windows hold only ids that are down, and the last motion of the device lists
-- all that are held
pub record Fits (s : Scene) (d : ℕ) (down : List ℕ) : Type 0 where
  pub rises : IsRising (s.last d)
  pub held_is_down : (w i : ℕ) → s.holds w d i ≡ true → list_any (λ j. j == i) down ≡ true
  pub held_is_listed : (w : ℕ) → filter (s.holds w d) (ids_of (s.last d)) ≡ filter (s.holds w d) down

-- the step is a motion of the device
abbrev pub is_motion_of : Step → ℕ → Bool
is_motion_of (Moves m) d = m.device == d
is_motion_of e d = false

-- the pointers of a device at their last places, after a step
abbrev pub last_then : Step → ℕ → List Pointer → List Pointer
last_then (Moves m) d last = if m.device == d then m.pointers else last
last_then e d last = last
