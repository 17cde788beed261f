-- What a channel is sent at a step.
use Rattle.std.specs.Prelude.{ℕ, ◌&&◌, List, [], ◌∷◌, ◌++◌, map, flat_map, Option, if◌then◌else◌}
use Rattle.input_types.specs.declared.axis.Pixel.{Pixel}
use Rattle.input_types.specs.declared.message.Args.{Args}
use Rattle.input_types.specs.declared.message.Body.{Body}
use Rattle.input_types.specs.declared.message.Body.TheVariants.{Motion as MotionBody, Key}
use Rattle.input_types.specs.declared.motion.Motion.{Motion}
use Rattle.routing_rules.specs.Cover.{Cover, under_all}
use Rattle.routing_rules.specs.Marks.{Mark, covered}
use Rattle.routing_rules.specs.Scene.{Scene, Step}
use Rattle.routing_rules.specs.Outgoing.{sent_with, devices}
use Rattle.dispatch_history.specs.History.{History, live, origin}
use Rattle.dispatch_history.specs.Effect.{Effect, past_of}
use Rattle.dispatch_history.specs.Delivery.{able}
use Rattle.dispatch_history.specs.Step.{marks}
use Rattle.dispatch_history.specs.Focus.{has_focus, is_target, focus_sent}
use Rattle.dispatch_history.specs.Keys.{keys, loses_all}
use Rattle.dispatch_history.specs.KeySent.{keys_sent, repeat_by, last_key}
use Rattle.window_snapshot.specs.Origins.{place_from}

-- a motion with its positions relative to an origin
abbrev pub motion_from : Pixel → Motion → Motion
motion_from o m =
    record {
      device = m.device;
      action = m.action;
      index = m.index;
      flags = m.flags;
      pointers = map (λ p. record { id = p.id; at = place_from o p.at }) m.pointers;
    }

-- the motions that a channel is sent: device by device, with the flags of what lies over its window, relative to its
-- origin before the step
abbrev pub motions_said : Scene → Step → Mark → (ℕ → Cover) → Pixel → ℕ → List Body
motions_said s e k cover o w = map (λ m. MotionBody (motion_from o m)) (under_all cover (flat_map (sent_with s e k w) devices))

-- the key messages that it is sent
abbrev pub keys_said : History → Option Args → List Effect → ℕ → List Body
keys_said after args before w =
    map Key
    (keys_sent args (is_target (past_of before) w && able before w) (loses_all after (past_of before) w) (keys before w)
    ++ repeat_by after (last_key before) w)

-- what a channel that is live after the step is sent: motions, then keys, then the focus
abbrev pub said : History → Option Args → Scene → Step → Mark → List Effect → ℕ → List Body
said after args s e k before w =
    if live after w then
    motions_said s e k (covered (k ∷ marks before) w) (origin (past_of before) w) w
    ++ keys_said after args before w
    ++ focus_sent (has_focus (past_of before) w) (has_focus after w)
    else []
