use Rattle.std.proofs.Common.{List, ◌++◌, reverse, sym, subst}
use Rattle.std.proofs.lemmas.Result.{err_from_is_err_and}
use Rattle.raw_events.specs.declared.event.RawEvent.{RawEvent}
use Rattle.recording_counts.specs.EventTally.{EventTallyStandsFor}
use Rattle.recording_counts.specs.RecordingTally.{HasCounted, TallyState}
use Rattle.recording_counts.proofs.TallySteps.{end_stopped, ended}
use Rattle.recording_counts.proofs.recording_tally.RecordingTally.finish.Goals as goal

pub returns-in_err-finish : goal.returns-in_err-finish
returns-in_err-finish c = λ devices plans bytes h.
    let p = err_from_is_err_and c.from_residual.result c.from_residual.ensures.1 in
    let old : TallyState = record { reader = c.self.inside.reader; lines = c.self.inside.lines; events = c.self.inside.events } in
    let before = subst (λ (t : TallyState). HasCounted devices plans bytes t) (sym c.self.view_is) h in
    rw (p.1, p.2) (end_stopped devices plans bytes old c.finish.new.self c.clear.new.self.items c.finish.new.out.items c.in_err-finish.field-0.0 c.in_err-finish.ensures before)

pub returns : goal.returns
returns c = λ devices plans bytes h.
    let old : TallyState = record { reader = c.self.inside.reader; lines = c.self.inside.lines; events = c.self.inside.events } in
    let new : TallyState = record { reader = c.finish.new.self; lines = c.finish-2.new.self; events = c.take_all.new.self } in
    let before = subst (λ (t : TallyState). HasCounted devices plans bytes t) (sym c.self.view_is) h in
    ended devices plans bytes old new c.clear.new.self.items c.finish.new.out.items c.clear.ensures.items c.in_ok-finish.ensures
    (c.in_ok-finish-2.ensures devices bytes before.lines_stand)
    (λ past k. subst (λ (es : List RawEvent). EventTallyStandsFor plans (reverse es ++ past) c.take_all.new.self) c.deref.ensures.value (c.in_ok-take_all.ensures plans past k))
    before
