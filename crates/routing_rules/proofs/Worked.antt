-- Windows, pointers, motions and scenes for the worked examples.
use Rattle.std.specs.Prelude.{◌-◌, ℕ, pos, true, false, ◌&&◌, List, [], ◌∷◌, nat_lt}
use Rattle.input_types.specs.declared.motion.Motion.{Motion}
use Rattle.input_types.specs.declared.motion.MotionAction.{MotionAction}
use Rattle.input_types.specs.declared.pointer.Pointer.{Pointer}
use Rattle.touch_region.specs.declared.rectangle.Rect.{Rect}
use Rattle.window_snapshot.specs.declared.occlusion.Occlusion.{Occlusion}
use Rattle.window_snapshot.specs.declared.occlusion.Occlusion.TheVariants.{Block}
use Rattle.window_snapshot.specs.declared.window.Window.{Window}
use Rattle.window_snapshot.specs.Named.{is_shown_on}
use Rattle.routing_rules.specs.Pairs.{Pair, has_any}
use Rattle.routing_rules.specs.Scene.{Scene, scene_of}

-- a window whose region is its frame
abbrev pub window : (channel flags left top right bottom : ℕ) → Window
window c f l t r b =
    let frame : Rect = record { left = pos l; top = pos t; right = pos r; bottom = pos b } in
    record { channel = c; display = 0; frame = frame; region = frame ∷ []; flags = record { bits = f }; owner = 0; opacity = 100; occlusion = Block }

-- pointer i at a place
abbrev pub at : ℕ → ℕ → ℕ → Pointer
at i x y = record { id = i; at = record { x = pos x; y = pos y } }

-- a motion of device 1
abbrev pub motion : MotionAction → ℕ → List Pointer → Motion
motion action index ps = record { device = 1; action = action; index = index; flags = 0; pointers = ps }

-- the same with FLAG_CANCELED
abbrev pub cancelled : MotionAction → ℕ → List Pointer → Motion
cancelled action index ps = record { device = 1; action = action; index = index; flags = 32; pointers = ps }

abbrev pub pair : ℕ → ℕ → Pair
pair w i = record { window = w; device = 1; id = i }

-- a scene in which all channels are able, no window pilfers, and of two windows that hold something the one with the
-- lower number began first
abbrev pub scene : List Window → List Pair → List Pointer → Scene
scene windows qs last =
    scene_of windows (λ d w. true) (λ w. true) qs (λ v w d. has_any qs v d && has_any qs w d && nat_lt v w) (λ w d. false) (λ d. last)

-- the window of an owner, of this opacity and this occlusion
abbrev pub owned : (owner opacity : ℕ) → Occlusion → Window → Window
owned o p m v = record v { owner = o; opacity = p; occlusion = m }

-- the window on another display
abbrev pub on : ℕ → Window → Window
on y v = record v { display = y }

-- the same scene where device 1 is on display 0 and device 2 on display 1
abbrev pub on_two_displays : Scene → Scene
on_two_displays s = record s { reach = λ d w. is_shown_on s.windows (d - 1) w }
