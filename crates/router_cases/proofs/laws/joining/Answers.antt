use Rattle.router_cases.proofs.JoiningLaws.{start_law, scene_law, step_law, listed_law}
use Rattle.router_cases.proofs.laws.joining.Goals as goal

pub returns : goal.returns
returns c = record { start = start_law; scene = scene_law; step = step_law; listed = listed_law }
