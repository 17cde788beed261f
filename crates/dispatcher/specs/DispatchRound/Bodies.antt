-- What a window is sent at a step, in display pixels, and what that leaves of it.
use Rattle.std.specs.Prelude.{◌≡◌, ℕ, Bool, ◌==◌, List, [], ◌∷◌, ◌++◌, map, flat_map, Option, if◌then◌else◌}
use Rattle.input_types.specs.declared.key.KeyMsg.{KeyMsg}
use Rattle.input_types.specs.declared.message.Body.{Body}
use Rattle.input_types.specs.declared.message.Body.TheVariants.{Motion as MotionBody, Key}
use Rattle.input_types.specs.declared.motion.Motion.{Motion}
use Rattle.input_types.specs.declared.pointer.Pointer.{Pointer}
use Rattle.routing_rules.specs.Cover.{under_all}
use Rattle.routing_rules.specs.Scene.{Scene, Step}
use Rattle.dispatcher.specs.WindowCovers.Covers.{CoverTable, cover_in}
use Rattle.routing_rules.specs.Outgoing.{outgoing, devices}
use Rattle.dispatcher.specs.CancelSynthesis.Tracked.{Tracked, pointers_of, pointers_then}
use Rattle.dispatcher.specs.KeyTables.Focused.{change_sent}
use Rattle.dispatcher.specs.KeyTables.Held.{bodies_tracked}

-- the motions that a window is sent at a step, device by device
abbrev pub motions_of : Scene → Step → ℕ → List Motion
motions_of s e w = flat_map (outgoing s e w) devices

-- motions as a window is sent them, each with the flags of what lies over the window for its device
abbrev pub told : CoverTable → ℕ → List Motion → List Body
told covers w ms = map MotionBody (under_all (cover_in covers w) ms)

-- the key messages that a window is sent, of which one window is sent all
abbrev pub keys_to : (target : ℕ) → List KeyMsg → ℕ → List KeyMsg
keys_to target keys w = if w == target then keys else []

-- what it is sent: motions, then keys, then a change of its focus
abbrev pub bodies_of : CoverTable → ℕ → List Motion → List KeyMsg → Option Bool → List Body
bodies_of covers w motions keys change = told covers w motions ++ map Key keys ++ change_sent change

-- the pointers of device d once these bodies are tracked, the first one first
abbrev pub pointers_tracked : List Body → ℕ → List Pointer → List Pointer
pointers_tracked [] d ps = ps
pointers_tracked (b ∷ bs) d ps = pointers_tracked bs d (pointers_then b d ps)

-- what is kept of a window once it was sent these bodies, and each was tracked
pub record TracksAll (old new : Tracked) (bodies : List Body) : Type 0 where
  pub pointers_are : (d : ℕ) → pointers_of new d ≡ pointers_tracked bodies d (pointers_of old d)
  pub keys_are : new.keys ≡ bodies_tracked bodies old.keys
