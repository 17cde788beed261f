-- What a window is sent, and what that depends on.
use Rattle.std.specs.Prelude.{ℕ, flat_map, List}
use Rattle.input_types.specs.declared.motion.Motion.{Motion}
use Rattle.routing_rules.specs.Scene.{Scene}
use Rattle.routing_rules.specs.Marks.{Mark}
use Rattle.routing_rules.specs.Given.{changed}
use Rattle.routing_rules.specs.Outgoing.{cancels, sent_motion, after, devices}

-- what window w is sent at a step with this mark that is a motion
abbrev pub sent_moved : Scene → Mark → Motion → ℕ → List Motion
sent_moved s k m w = sent_motion s m (changed m) w (s.holds w m.device) (after s k w m.device)

-- what window w is sent for device d at a step with this mark that is no motion: what is taken is cancelled
abbrev pub sent_lost : Scene → Mark → ℕ → ℕ → List Motion
sent_lost s k w d = cancels d (s.last d) (s.holds w d) (after s k w d)

-- and of all devices
abbrev pub sent_losses : Scene → Mark → ℕ → List Motion
sent_losses s k w = flat_map (sent_lost s k w) devices
