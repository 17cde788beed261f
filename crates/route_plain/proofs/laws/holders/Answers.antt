use Rattle.route_plain.proofs.Conditions.{able_law, named_law, down_law}
use Rattle.route_plain.proofs.laws.holders.Goals as goal

pub returns : goal.returns
returns c = record { able = able_law; named = named_law; down = down_law }
