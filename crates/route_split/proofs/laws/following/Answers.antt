use Rattle.route_split.proofs.FollowingLaws.{start_law, step_law, scene_law}
use Rattle.route_split.proofs.laws.following.Goals as goal

pub returns : goal.returns
returns c = record { start = start_law; step = step_law; scene = scene_law }
