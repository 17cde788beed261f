-- A session that is accepted, and the result for its recording.
use Rattle.std.proofs.Common.{List, [], ◌∷◌, Option, Ok, Err, subst}
use Rattle.std.proofs.lemmas.Result.{err_from_is_err_and}
use Rattle.outside_io.specs.Outside.{Entry}
use Rattle.session_plan.specs.View.{plan_view}
use Rattle.schedule.specs.declared.keeping.Lines.{Lines}
use Rattle.command_files.specs.Inputs.{recording_limit, session_file, session_limit}
use Rattle.command_files.specs.Judged.{by_log}
use Rattle.command_files.specs.Logged.{Logged, RefusesBy}
use Rattle.command_files.proofs.Logs.{any_log, file_by, file_goes, then_by}
use Rattle.command_files.proofs.Outcomes.{if_err_map, if_ok_map}
use Rattle.command_answers.specs.Begun.{BeginsWith}
use Rattle.command_answers.specs.Running.{RecordingSends}
use Rattle.command_answers.proofs.running.answer_run.Goals as goal

pub returns-in_err-plan-clause-err : goal.returns-in_err-plan-clause-err
returns-in_err-plan-clause-err g c =
    let told = g.F.Files.entries c.args.files.now in
    let before = g.F.Files.readings c.args.files.now in
    let now = g.F.Files.readings c.read_session.new.files in
    let fb = g.F.Files.faults c.args.files.now in
    let fn = g.F.Files.faults c.read_session.new.files in
    let events = c.args.names.events.now in
    let p = err_from_is_err_and c.from_residual.result c.from_residual.ensures.1 in
    rw (p.1, p.2)
    (file_by told before now c.args.names.session.now session_file ((events, recording_limit) ∷ []) (RecordingSends c.args.sending events) fb fn c.in_err-plan.field-0.0 c.in_err-plan.ensures.err)

pub returns-in_err-begun-clause-err : goal.returns-in_err-begun-clause-err
returns-in_err-begun-clause-err g c =
    let told = g.F.Files.entries c.args.files.now in
    let before = g.F.Files.readings c.args.files.now in
    let now = g.F.Files.readings c.read_session.new.files in
    let p = err_from_is_err_and c.from_residual-in_err-begun.result c.from_residual-in_err-begun.ensures.1 in
    rw (p.1, p.2) (any_log told before now c.args.names.session.now session_limit ((c.args.names.events.now, recording_limit) ∷ []) _ c.in_ok-plan.ensures.ok)

pub returns-clause-ok : goal.returns-clause-ok
returns-clause-ok g c =
    let told = g.F.Files.entries c.args.files.now in
    let before = g.F.Files.readings c.args.files.now in
    let mid = g.F.Files.readings c.read_session.new.files in
    let now = g.F.Files.readings c.recording_text.new.files in
    let plan = plan_view c.in_ok-plan.plan in
    let events = c.args.names.events.now in
    if_ok_map c.recording_text.result _ _
    (λ text log. file_goes told before mid now c.args.names.session.now session_file ((events, recording_limit) ∷ []) plan (RecordingSends c.args.sending events) (Ok text)
    c.in_ok-plan.ensures.ok
    (subst (λ (o : Option (List Entry)). Logged o mid now ((events, recording_limit) ∷ []) (λ rs. RecordingSends c.args.sending events (by_log rs) plan (Ok text)))
    c.in_ok-plan.ensures.files.entries log))
    (c.recording_text.ensures.ok plan (subst (λ (how : Lines). BeginsWith how plan c.in_ok-begun.begun) c.lines.ensures c.in_ok-begun.ensures))

pub returns-clause-err : goal.returns-clause-err
returns-clause-err g c =
    let told = g.F.Files.entries c.args.files.now in
    let before = g.F.Files.readings c.args.files.now in
    let mid = g.F.Files.readings c.read_session.new.files in
    let now = g.F.Files.readings c.recording_text.new.files in
    let fb = g.F.Files.faults c.args.files.now in
    let fm = g.F.Files.faults c.read_session.new.files in
    let fn = g.F.Files.faults c.recording_text.new.files in
    let plan = plan_view c.in_ok-plan.plan in
    let events = c.args.names.events.now in
    if_err_map c.recording_text.result _ _
    (λ r h. then_by told before mid now c.args.names.session.now session_file ((events, recording_limit) ∷ []) plan (RecordingSends c.args.sending events) fb fm fn r
    c.in_ok-plan.ensures.files.later c.in_ok-plan.ensures.ok
    (subst (λ (o : Option (List Entry)). RefusesBy (λ x. Logged o mid now ((events, recording_limit) ∷ []) (λ rs. RecordingSends c.args.sending events (by_log rs) plan (Err x)))
    (Logged o mid now ((events, recording_limit) ∷ []) (λ rs. Unit {0})) fm fn r) c.in_ok-plan.ensures.files.entries h))
    (c.recording_text.ensures.err plan (subst (λ (how : Lines). BeginsWith how plan c.in_ok-begun.begun) c.lines.ensures c.in_ok-begun.ensures))
