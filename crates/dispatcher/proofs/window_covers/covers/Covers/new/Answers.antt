use Rattle.dispatcher.proofs.WindowCovers.Masks.{fresh}
use Rattle.dispatcher.proofs.window_covers.covers.Covers.new.Goals as goal

pub returns : goal.returns
returns c w d = fresh w d
