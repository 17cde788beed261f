use Rattle.std.proofs.Common.{◌≡◌, ◌++◌, take}
use Rattle.stream_text.specs.Spelling.{message_lines}
use Rattle.schedule.proofs.text.add_messages.Given as goal

-- the lines of the messages so far stand behind the text
abbrev pub invariant-loop-message : goal.invariant-loop-message
invariant-loop-message l = l.text.items ≡ l.initial.text.items ++ message_lines (take l.message-index l.messages)
