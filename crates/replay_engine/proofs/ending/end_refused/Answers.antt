-- The line of each refusal was printed.
use Rattle.replay_engine.proofs.ending.end_refused.Goals as goal
use Rattle.replay_engine.proofs.ending.end_refused.Goals.{in-Session, in-Recording, in-Order, in-Stream, in-ReadFailed, in-NoMemory, in-TooLong}

pub returns-clause-printed : goal.returns-clause-printed
returns-clause-printed g c =
    elim c.match-refusal.branch [
      | in-Session w ↦ rw (w.in-Session.is, w.err-is) w.tell_session.ensures
      | in-Recording w ↦ rw (w.in-Recording.is, w.err-is) w.tell_recording.ensures
      | in-Order w ↦ rw (w.in-Order.is, w.err-is) w.tell_order.ensures
      | in-Stream w ↦ rw (w.in-Stream.is, w.err-is) w.tell_stream.ensures
      | in-ReadFailed w ↦ rw (w.in-ReadFailed.is, w.err-is) w.tell_unread.ensures
      | in-NoMemory w ↦ rw (w.in-NoMemory.is, w.err-is) w.tell.ensures
      | in-TooLong w ↦ rw (w.in-TooLong.is, w.err-is) w.tell_too_long.ensures
    ]
