use Rattle.std.proofs.Common.{◌≡◌, ◌++◌, drop}
use Rattle.stream_text.specs.Spelling.{message_lines}
use Rattle.stream_text.proofs.writing.message.add_messages.Given as goal

-- the text so far, and then the messages that are left, are all
abbrev pub invariant-loop-message : goal.invariant-loop-message
invariant-loop-message l = l.text.items ++ message_lines (drop l.message-index l.messages) ≡ l.initial.text.items ++ message_lines l.messages
