-- The text of the counts.
use Rattle.std.proofs.Common.{reverse, ◌∙◌}
use Rattle.raw_events.specs.Recording.{lines_of}
use Rattle.command_files.specs.Cooked.{plans_of}
use Rattle.command_files.specs.Devices.{devices_of}
use Rattle.command_answers.specs.Inspect.{session_view}
use Rattle.command_answers.proofs.Counts.{counts_sent}
use Rattle.command_answers.proofs.inspect.told.Goals as goal

pub returns : goal.returns
returns c = λ bytes counted.
    let session = session_view c.args.session.now in
    let says =
    rw (c.lines.ensures, c.events.ensures, c.deref.ensures.value, c.deref-2.ensures.value, c.new-text.ensures.items)
    at (c.in_ok-inspect_text.ensures (devices_of session.0) (reverse (lines_of bytes)) (plans_of session.0) (reverse counted.events)) in
    counts_sent session bytes c.of.result c.args.tally.now counted (c.of.ensures ∙ says counted.lines_stand counted.lines_read counted.events_stand)
