use Rattle.why_lines.proofs.Passing.{Written}
use Rattle.why_lines.proofs.lines.sets.add_ids.Given as goal

-- the ids so far are written
abbrev pub invariant-loop-id : goal.invariant-loop-id
invariant-loop-id l = Written l.ids l.id l.initial.text.items l.text.items l.is_first
