-- A touch device is on one of the displays, and one with keys is on none of its own.
use Rattle.session_plan.proofs.device.device.Goals.{then-eq-2+in_ok-kind, else-eq-2+in_ok-kind-2}
use Rattle.session_plan.proofs.device.device.Goals as goal

pub returns-clause-valid : goal.returns-clause-valid
returns-clause-valid c =
    elim c.if-eq-2.branch [
      | then-eq-2+in_ok-kind w ↦ rw w.kind-is w.in_ok-kind.ensures.valid
      | else-eq-2+in_ok-kind-2 w ↦ rw w.kind-is (w.in_ok-kind-2.ensures.touchless c.args.displays)
    ]
