use Rattle.std.proofs.Common.{◌≡◌, drop}
use Rattle.gesture_verifier.specs.Reasons.{first_fitting}
use Rattle.gesture_verifier.proofs.reason.first_fitting.Given as goal

-- the answer is that of the remaining rows
abbrev pub invariant-loop-fits : goal.invariant-loop-fits
invariant-loop-fits l = first_fitting (drop l.fits-index l.rows) ≡ first_fitting l.rows
