use Rattle.std.proofs.Common.{◌≡◌, ℕ, ◌≤◌, []}
use Rattle.stream_text.specs.StreamAnswer.{opened}
use Rattle.stream_text.proofs.reading.stream_file.section.Given as goal

abbrev pub invariant-messages : goal.invariant-messages
invariant-messages l = record {
  read : (id first : ℕ) → opened id first l.messages.items l.lines.events ≡ opened id first [] l.initial.lines.events;
  left : l.lines.left ≤ l.initial.lines.left;
}

abbrev pub decreases-messages : goal.decreases-messages
decreases-messages l = l.lines.left
