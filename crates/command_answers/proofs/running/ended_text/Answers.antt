-- The end of a recording and its text.
use Rattle.std.proofs.Common.{◌∙◌, ap, map, Ok, Err}
use Rattle.session_plan.specs.View.{channel_view}
use Rattle.command_answers.specs.Running.{lines_of}
use Rattle.command_answers.proofs.Begins.{judged, refuses_events}
use Rattle.command_files.proofs.Answering.{so_map}
use Rattle.command_files.proofs.Outcomes.{if_err_map, if_ok_map}
use Rattle.command_answers.proofs.running.ended_text.Goals as goal

pub returns-in-Ok-clause-ok : goal.returns-in-Ok-clause-ok
returns-in-Ok-clause-ok c = λ p bytes same script taken.
    let ended = c.in-Ok.ensures.ok (lines_of c.args.sending) p bytes script taken
    in if_ok_map c.done_text.result _ _ (λ text r. judged c.args.sending p bytes c.in-Ok.schedule (Ok text) ended r)
    (c.done_text.ensures.ok p ended.past (ap (map channel_view) c.deref.ensures.value ∙ same) ended.completed)

pub returns-in-Ok-clause-err : goal.returns-in-Ok-clause-err
returns-in-Ok-clause-err c = λ p bytes same script taken.
    let ended = c.in-Ok.ensures.ok (lines_of c.args.sending) p bytes script taken
    in if_err_map c.done_text.result _ _ (λ r h. so_map _ _ r (λ x. judged c.args.sending p bytes c.in-Ok.schedule (Err x) ended) h)
    (c.done_text.ensures.err p ended.past (ap (map channel_view) c.deref.ensures.value ∙ same) ended.completed)

pub returns-clause-err : goal.returns-clause-err
returns-clause-err c = λ p bytes same script taken. refuses_events c.args.sending p bytes c.in-Err.refusal (c.in-Err.ensures.err (lines_of c.args.sending) p bytes taken)
