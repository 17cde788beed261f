use Rattle.std.proofs.Common.{◌≡◌, drop}
use Rattle.motion_batch.specs.Rule.{has_same_ids}
use Rattle.motion_batch.proofs.pending.has_same_ids.Given as goal

-- the answer is that of the pointers that are left
abbrev pub invariant-loop-pointer : goal.invariant-loop-pointer
invariant-loop-pointer l = has_same_ids (drop l.pointer-index l.left) l.others ≡ has_same_ids l.left l.right
