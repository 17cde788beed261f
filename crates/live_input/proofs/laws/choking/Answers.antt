use Rattle.live_input.proofs.Draining.{bound_law, cover_law, drained_law, hidden_law, left_law}
use Rattle.live_input.proofs.Growing.{growth_law}
use Rattle.live_input.proofs.Quiet.{quiet_law}
use Rattle.live_input.proofs.Undisturbed.{eased_display, eased_keys}
use Rattle.live_input.proofs.laws.choking.Goals as goal

pub returns : goal.returns
returns c =
    record {
      bound = bound_law;
      growth = growth_law;
      drained = drained_law;
      hidden = hidden_law;
      quiet = quiet_law;
      left = left_law;
      cover = cover_law;
      display = eased_display;
      keys = eased_keys;
    }
