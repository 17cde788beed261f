use Rattle.std.proofs.Common.{reverse}
use Rattle.dispatch_core.proofs.record.Core.new.Goals as goal

pub returns : goal.returns
returns c =
    λ i.
    record {
      displays = c.in_ok-dispatcher.ensures.displays i;
      entries = reverse (c.new-2.ensures.items i);
      spare = 0;
      pumps = 0;
    }
