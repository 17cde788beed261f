use Rattle.recording_counts.specs.RecordingTally.{TallyState}
use Rattle.recording_counts.proofs.TallySteps.{none_yet}
use Rattle.recording_counts.proofs.recording_tally.RecordingTally.new.Goals as goal

pub returns : goal.returns
returns c = λ devices plans is lines events.
    let begun : TallyState = record { reader = c.args.reader; lines = c.args.lines; events = c.args.events } in
    none_yet devices plans begun is lines events
