-- A line was refused before the end.
use Rattle.std.proofs.Common.{Option, subst, sym}
use Rattle.raw_events.specs.declared.event.LineError.{LineError}
use Rattle.command_files.specs.Counting.{CountingState, HasTaken, TakenBy}
use Rattle.command_files.proofs.Counted.{refused_before}
use Rattle.command_files.proofs.counting.Counting.end.Goals as goal

pub returns-in-Some-clause-err : goal.returns-in-Some-clause-err
returns-in-Some-clause-err c = λ p bytes taken.
    let before : HasTaken p bytes (record { tally = c.counting.inside.tally; refused = c.counting.inside.refused }) =
    subst (λ (s : CountingState). HasTaken p bytes s) (sym c.counting.view_is) taken in
    rw c.recording_refusal.ensures
    (refused_before p bytes c.in-Some.error (subst (λ (o : Option LineError). TakenBy o p bytes c.counting.inside.tally) c.in-Some.is before))
