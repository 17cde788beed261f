-- The end, with all lines or with one that is refused.
use Rattle.std.proofs.Common.{List, Ok, subst, sym}
use Rattle.raw_events.specs.declared.event.RawEvent.{RawEvent}
use Rattle.raw_events.specs.Pieces.{Does, finished}
use Rattle.command_files.specs.Recorded.{HasRead, RecordingState}
use Rattle.command_files.proofs.NextPiece.{ended_run, end_refuses}
use Rattle.command_files.proofs.recording.Recording.end.Goals as goal

pub returns-in_ok-finish-in-Ok-clause-ok : goal.returns-in_ok-finish-in-Ok-clause-ok
returns-in_ok-finish-in-Ok-clause-ok c = λ how p bytes run taken.
    let old : RecordingState = record { reader = c.recording.inside.reader; readers = c.recording.inside.readers; schedule = c.recording.inside.schedule }
    in ended_run how c.args.plan.now p bytes old c.finish.new.self c.finish.new.out.items c.deref.result.now c.run_events.new.schedule c.finish-in-Ok.new.self run
    (subst (HasRead how p bytes) (sym c.recording.view_is) taken)
    (subst (λ (xs : List RawEvent). Does (Ok tt) (finished c.recording.inside.reader) c.recording.inside.reader c.finish.new.self xs c.finish.new.out.items) c.clear.ensures.items c.in-Ok.ensures)
    c.deref.ensures.value
    (λ past stand ran. (c.in_ok-run_events-in-Ok.ensures how p past run stand ran).1)
    (c.in_ok-finish-in-Ok.ensures.completed how)

pub returns-in-Err : goal.returns-in-Err
returns-in-Err c = record {
  ok = λ how p bytes run taken. tt;
  err = λ how p bytes taken. rw c.recording_refusal.ensures
      (end_refuses how p bytes (record { reader = c.recording.inside.reader; readers = c.recording.inside.readers; schedule = c.recording.inside.schedule })
      c.finish.new.self c.clear.new.self.items c.finish.new.out.items c.in-Err.error c.in-Err.ensures (subst (HasRead how p bytes) (sym c.recording.view_is) taken));
}
