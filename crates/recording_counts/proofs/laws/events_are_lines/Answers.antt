use Rattle.raw_events.specs.Recording.{lines_of, recorded}
use Rattle.recording_counts.proofs.AllRead.{all_read, as_many_events}
use Rattle.recording_counts.proofs.laws.events_are_lines.Goals as goal

pub returns : goal.returns
unfolding recorded
returns c = λ devices bytes events h. (all_read devices 1 (lines_of bytes) events h, as_many_events devices 1 (lines_of bytes) events h)
