use Rattle.std.proofs.Common.{◌≡◌, ℕ}
use Rattle.window_snapshot.specs.Mask.{mask_has}
use Rattle.route_split.specs.Tables.{holds_at}
use Rattle.why_lines.proofs.Pilfering.{some_below}
use Rattle.why_lines.proofs.owners.holders_of.Given as goal

-- the mask has the windows that hold some of the ids that are passed
abbrev pub invariant-loop-id : goal.invariant-loop-id
invariant-loop-id l = (w : ℕ) → mask_has l.mask w ≡ some_below (λ i. holds_at l.touches w l.device i) l.ids l.id
