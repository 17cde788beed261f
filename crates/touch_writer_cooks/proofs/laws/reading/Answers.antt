use Rattle.touch_writer_cooks.proofs.ReadBack as proof
use Rattle.touch_writer_cooks.proofs.laws.reading.Goals as goal

pub returns : goal.returns
returns c = record { events = proof.reading }
