-- What a step of a history is to the routing rules, and the state before it.
use Rattle.std.specs.Prelude.{ℕ, Bool, not, ◌==◌, ◌&&◌, ◌||◌, nat_lt, List, map, Option, Some}
use Rattle.input_types.specs.declared.message.Args.{Args}
use Rattle.input_types.specs.declared.message.Args.TheVariants.{Motion as MotionArgs, Reset}
use Rattle.input_types.specs.Displays.{device_display}
use Rattle.window_snapshot.specs.declared.window.Window.{Window}
use Rattle.window_snapshot.specs.Mask.{mask_has}
use Rattle.window_snapshot.specs.Walls.{wall_on}
use Rattle.dispatch_calls.specs.declared.call.Call.{Call}
use Rattle.dispatch_calls.specs.declared.call.Call.TheVariants.{Windows, Pump, Tick, Pilfer, Remove}
use Rattle.dispatch_calls.specs.declared.reply.Reply.{Reply}
use Rattle.dispatch_calls.specs.declared.reply.Reply.TheVariants.{Done, Named}
use Rattle.routing_rules.specs.Pairs.{Pair, has_any}
use Rattle.routing_rules.specs.Marks.{Mark, held, since, pilfering}
use Rattle.routing_rules.specs.Scene.{Scene, Step, Moves, Resets, Pilfers, Shows, Mutes, Removes, NoOp, scene_of, stays}
use Rattle.dispatch_history.specs.History.{live, snapshot, is_on}
use Rattle.dispatch_history.specs.Effect.{Effect, past_of, last}
use Rattle.dispatch_history.specs.Delivery.{able}

-- the marks of the steps
abbrev pub marks : List Effect → List Mark
marks es = map (λ x. x.mark) es

-- window v began to hold something of the device before window w did, of two that hold something of it
abbrev pub is_earlier : List Pair → List Mark → (v w device : ℕ) → Bool
is_earlier qs ms v w d = has_any qs v d && has_any qs w d && nat_lt (since ms v d) (since ms w d)

-- a motion of a device can reach a channel that is on the device's display, by these displays of the devices, and the walls of
-- that display, whose number is no live channel's
abbrev pub reach : List ℕ → List Effect → ℕ → ℕ → Bool
reach displays es d c =
    let y = device_display displays d in is_on (past_of es) y c || (not (live (past_of es) c) && c == wall_on y)

-- the scene after these steps, with their marks and the pairs that these leave
abbrev pub scene_with : List ℕ → List Effect → List Mark → List Pair → Scene
scene_with displays es ms qs =
    scene_of (snapshot (past_of es)) (reach displays es) (able es) qs (is_earlier qs ms) (pilfering ms) (last es)

-- the scene after these steps
abbrev pub scene : List ℕ → List Effect → Scene
scene displays es = let ms = marks es in scene_with displays es ms (held ms)

-- what a step is to the rules, with the windows before it and the args that it dispatches
abbrev pub step_of : List Window → Call → Reply → Option Args → Step
step_of before (Pump now) reply (Some (MotionArgs m)) = Moves m
step_of before (Pump now) reply (Some (Reset d)) = Resets d
step_of before (Windows now next) reply args = Shows (stays before next)
step_of before (Tick now) (Named mask) args = Mutes (mask_has mask)
step_of before (Pilfer now channel device) Done args = Pilfers channel device
step_of before (Remove now channel) Done args = Removes channel
step_of before call reply args = NoOp
