-- What a step sends a window, in display pixels.
use Rattle.std.specs.Prelude.{ℕ, List, ◌∷◌, ◌++◌, map}
use Rattle.input_types.specs.declared.message.Body.{Body}
use Rattle.input_types.specs.declared.message.Body.TheVariants.{Motion as MotionBody, Key}
use Rattle.input_types.specs.declared.motion.Motion.{Motion}
use Rattle.dispatch_calls.specs.declared.call.Call.{Call}
use Rattle.dispatch_calls.specs.declared.reply.Reply.{Reply}
use Rattle.dispatch_history.specs.Effect.{Effect, past_of}
use Rattle.dispatch_history.specs.Effects.{step}
use Rattle.dispatch_history.specs.Focus.{has_focus, focus_sent}
use Rattle.dispatch_history.specs.Step.{marks, scene}
use Rattle.routing_rules.specs.Cover.{under_all}
use Rattle.routing_rules.specs.Marks.{covered}
use Rattle.dispatcher.specs.KeyTables.Held.{key_messages}
use Rattle.dispatcher.specs.DispatchRound.Bodies.{motions_of}
use Rattle.dispatcher.specs.Pointing.{mark_at, step_at}

-- the motions that a step sends a window, device by device, in display pixels and without what lies over the window
abbrev pub motions_at : List ℕ → Call → Reply → List Effect → ℕ → List Motion
motions_at displays call answer es w = motions_of (scene displays es) (step_at call answer es) w

-- all that it sends a window that is live after it, in display pixels: motions, then keys, then the focus
abbrev pub bodies_at : List ℕ → Call → Reply → List Effect → ℕ → List Body
bodies_at displays call answer es w =
    map MotionBody (under_all (covered (mark_at displays call answer es ∷ marks es) w) (motions_at displays call answer es w))
    ++ map Key (key_messages call answer es w)
    ++ focus_sent (has_focus (past_of es) w) (has_focus (past_of (step displays call answer es)) w)
