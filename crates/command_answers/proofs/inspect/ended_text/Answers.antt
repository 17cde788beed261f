-- The end of a recording that was counted, and the text about it.
use Rattle.std.proofs.lemmas.Result.{err_from_is_err_and}
use Rattle.command_answers.specs.Inspect.{session_view}
use Rattle.command_answers.proofs.Counts.{counts_refused}
use Rattle.command_answers.proofs.inspect.ended_text.Goals as goal

pub returns-in_err-tally-clause-err : goal.returns-in_err-tally-clause-err
returns-in_err-tally-clause-err c = λ bytes taken.
    let stops = err_from_is_err_and c.from_residual.result c.from_residual.ensures.1 in
    rw (stops.1, stops.2) (counts_refused (session_view c.args.session.now) bytes c.in_err-tally.field-0.0 (c.in_err-tally.ensures.err _ bytes taken))
