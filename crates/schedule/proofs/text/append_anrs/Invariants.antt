use Rattle.std.proofs.Common.{◌≡◌, ◌++◌, take}
use Rattle.stream_text.specs.StreamsHistory.{anr_lines}
use Rattle.schedule.proofs.text.append_anrs.Given as goal

-- the lines of the ANRs so far stand behind the text
abbrev pub invariant-loop-anr : goal.invariant-loop-anr
invariant-loop-anr l = l.text.items ≡ l.initial.text.items ++ anr_lines (take l.anr-index l.anrs)
