use Rattle.touch_writer_cooks.proofs.Cooks as proof
use Rattle.touch_writer_cooks.proofs.laws.cooking.Goals as goal

pub returns : goal.returns
returns c = record { pointers = proof.cooking }
