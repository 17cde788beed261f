-- A piece more, with all its lines or with a line that is refused.
use Rattle.std.proofs.Common.{List, Ok, subst}
use Rattle.raw_events.specs.declared.event.RawEvent.{RawEvent}
use Rattle.raw_events.specs.Pieces.{Does, fed}
use Rattle.command_files.specs.Recorded.{RecordingState}
use Rattle.command_files.proofs.Outcomes.{on_ok_map}
use Rattle.command_files.proofs.NextPiece.{piece_fed, refused_feed}
use Rattle.command_files.proofs.recording.RecordingTaker.take.Goals as goal

pub returns-in-Ok : goal.returns-in-Ok
returns-in-Ok c =
    let old : RecordingState = record { reader = c.self.inside.reader; readers = c.self.inside.readers; schedule = c.self.inside.schedule }
    in rw (← c.self.view_is)
    (piece_fed c.args.plan.now old c.feed.new.self c.run_events.new.readers c.run_events.new.schedule c.args.piece.now c.feed.new.out.items c.deref.result.now c.run_events.result
    (subst (λ (xs : List RawEvent). Does (Ok tt) (fed c.self.inside.reader c.args.piece.now) c.self.inside.reader c.feed.new.self xs c.feed.new.out.items) c.clear.ensures.items c.in-Ok.ensures)
    c.deref.ensures.value c.run_events.ensures)

pub returns-in-Err : goal.returns-in-Err
returns-in-Err c =
    let old : RecordingState = record { reader = c.self.inside.reader; readers = c.self.inside.readers; schedule = c.self.inside.schedule }
    in rw (← c.self.view_is)
    (on_ok_map c.passed_over.result _ _
    (λ f. refused_feed c.args.plan.now old c.feed.new.self c.args.piece.now c.clear.new.self.items c.feed.new.out.items c.in-Err.error f c.in-Err.ensures)
    c.passed_over.ensures)
