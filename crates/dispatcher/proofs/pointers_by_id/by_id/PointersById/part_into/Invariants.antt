use Rattle.dispatcher.proofs.PointersById.Walk.{Listed}
use Rattle.dispatcher.proofs.pointers_by_id.by_id.PointersById.part_into.Given as goal

abbrev pub invariant-loop-rest : goal.invariant-loop-rest
invariant-loop-rest l = Listed l.pointers l.fn.set l.rest l.listed

abbrev pub decreases-loop-rest : goal.decreases-loop-rest
decreases-loop-rest l = l.rest
