use Rattle.dispatcher.proofs.KeyTables.Focusing.{focus_read, focus_requested, focus_shown, focus_left, focus_masks, focus_at_first, focus_sent_law}
use Rattle.dispatcher.proofs.key_tables.laws.focus.Goals as goal

pub returns : goal.returns
returns c =
    record { read = focus_read; requested = focus_requested; shown = focus_shown; left = focus_left; masks = focus_masks; first = focus_at_first; outgoing = focus_sent_law }
