-- Empty tables say that nothing is down.
use Rattle.std.proofs.Common.{refl, sym, ap, Some}
use Rattle.gesture_verifier.proofs.Tables.{nothing_sent}
use Rattle.gesture_verifier.proofs.verifier.Verifier.new.Goals as goal

pub returns-clause-unsent : goal.returns-clause-unsent
returns-clause-unsent c = nothing_sent c.empty.result c.new.result.entries c.empty.ensures c.new.ensures.empty

pub returns-clause-stands : goal.returns-clause-stands
returns-clause-stands c = record {
  state = ap Some (sym (nothing_sent c.empty.result c.new.result.entries c.empty.ensures c.new.ensures.empty));
  count = refl;
}
