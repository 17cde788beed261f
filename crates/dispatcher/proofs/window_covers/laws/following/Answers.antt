use Rattle.dispatcher.proofs.WindowCovers.Giving.{gift_law, stay_law}
use Rattle.dispatcher.proofs.window_covers.laws.following.Goals as goal

pub returns : goal.returns
returns c = record { gift = gift_law; stay = stay_law }
