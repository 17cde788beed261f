use Rattle.route_plain.proofs.Following.{start_law, turn_law, scene_law}
use Rattle.route_plain.proofs.laws.following.Goals as goal

pub returns : goal.returns
returns c = record { start = start_law; turn = turn_law; scene = scene_law }
