use Rattle.std.proofs.Common.{◌∙◌, ap}
use Rattle.std.specs.Prelude.{if◌then◌else◌}
use Rattle.recording_counts.specs.Counted.{risen}
use Rattle.recording_counts.proofs.Back.{back_more}
use Rattle.recording_counts.proofs.event_tally.back_with.Goals as goal

pub returns : goal.returns
returns c = λ past span_is back_are.
    c.risen_if.ensures
    ∙ ap (λ b. if b then risen c.args.back else c.args.back) c.is_below.ensures
    ∙ back_more c.args.event.now past c.args.span c.args.back span_is back_are
