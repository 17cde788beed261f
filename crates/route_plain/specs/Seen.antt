-- What the rules see before a turn, as a scene.
use Rattle.routing_rules.specs.Scene.{Scene}
use Rattle.route_plain.specs.declared.seen.Seen.{Seen}
use Rattle.route_plain.specs.State.{scene_with}

-- what the rules see, as a scene
abbrev pub scene_at : Seen → Scene
scene_at m = scene_with m.snapshot.now m.live m.able m.holds.now m.pilferers.now m.last.now
