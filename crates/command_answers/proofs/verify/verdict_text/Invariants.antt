use Rattle.std.proofs.Common.{◌≡◌, ◌+◌, ◌≤◌, List, length}
use Rattle.input_types.specs.declared.message.Message.{Message as Told}
use Rattle.command_answers.specs.Judging.{Knows, judged_on}
use Rattle.command_answers.specs.Verify.{verdict}
use Rattle.command_answers.proofs.verify.verdict_text.Given as goal

-- what is known, with the lines that are left, is what is said of all; each line has a byte
abbrev pub invariant-lines : goal.invariant-lines
invariant-lines l = record {
  known : (past : List Told) × Knows past l.judge × (judged_on l.judge past l.lines.events ≡ verdict l.bytes);
  channels : l.judge.channels + l.lines.left ≤ length l.bytes + 1;
  messages : l.judge.messages + l.lines.left ≤ length l.bytes + 1;
}

abbrev pub decreases-lines : goal.decreases-lines
decreases-lines l = l.lines.left
