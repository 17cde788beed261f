use Rattle.std.proofs.Common.{◌≡◌, ◌++◌, take}
use Rattle.stream_text.specs.Spelling.{message_lines}
use Rattle.schedule.proofs.stream.Stream.drain_all.Given as goal

-- the lines of the messages so far stand behind those before
abbrev pub invariant-loop-message : goal.invariant-loop-message
invariant-loop-message l = l.self ≡ l.initial.self ++ message_lines (take l.message-index l.messages)
