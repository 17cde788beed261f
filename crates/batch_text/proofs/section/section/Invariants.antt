use Rattle.std.proofs.Common.{◌≤◌, List}
use Rattle.input_types.specs.declared.message.Message.{Message as Told}
use Rattle.batch_text.proofs.Messages.{SoFar}
use Rattle.batch_text.proofs.section.section.Given as goal

abbrev pub invariant-messages : goal.invariant-messages
invariant-messages l = record {
  known : (messages : List Told) × SoFar l.frame messages l.initial.lines.events l.lines.events l.judge l.initial.text.items l.text.items l.batches;
  left : l.lines.left ≤ l.initial.lines.left;
}

abbrev pub decreases-messages : goal.decreases-messages
decreases-messages l = l.lines.left
