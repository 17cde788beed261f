-- A session and a recording that are accepted, and their result.
use Rattle.std.proofs.Common.{List, [], ◌∷◌, Option, Ok, ◌∙◌, ap, sym, subst}
use Rattle.std.proofs.lemmas.Result.{err_from_is_err_and}
use Rattle.outside_io.specs.Outside.{Entry}
use Rattle.raw_events.specs.declared.event.RawEvent.{RawEvent}
use Rattle.raw_events.specs.Line.{Known, known}
use Rattle.session_plan.specs.View.{plan_view}
use Rattle.command_files.specs.Inputs.{events_file, recording_limit, session_file, session_limit}
use Rattle.command_files.specs.Judged.{Ends}
use Rattle.command_files.specs.Logged.{IsRead, Logged, RefusesFile}
use Rattle.command_files.proofs.Logs.{any_log, file_by, file_goes, last_file, more_log, then_by}
use Rattle.command_answers.specs.Hover.{HoverAnswers, MouseAnswers, mouse_alone}
use Rattle.command_answers.proofs.hover.answer_hover.Goals as goal

pub returns-in_err-session-clause-err : goal.returns-in_err-session-clause-err
returns-in_err-session-clause-err g c =
    let told = g.F.Files.entries c.args.files.now in
    let before = g.F.Files.readings c.args.files.now in
    let now = g.F.Files.readings c.read_session.new.files in
    let fb = g.F.Files.faults c.args.files.now in
    let fn = g.F.Files.faults c.read_session.new.files in
    let name = c.args.names.events.now in
    let p = err_from_is_err_and c.from_residual.result c.from_residual.ensures.1 in
    rw (p.1, p.2)
    (file_by told before now c.args.names.session.now session_file ((name, recording_limit) ∷ []) (MouseAnswers name c.args.mouse.now) fb fn c.in_err-session.field-0.0 c.in_err-session.ensures.err)

pub returns-in_err-devices-clause-err : goal.returns-in_err-devices-clause-err
returns-in_err-devices-clause-err g c =
    let told = g.F.Files.entries c.args.files.now in
    let before = g.F.Files.readings c.args.files.now in
    let now = g.F.Files.readings c.read_session.new.files in
    let fb = g.F.Files.faults c.args.files.now in
    let fn = g.F.Files.faults c.read_session.new.files in
    let name = c.args.names.events.now in
    let p = err_from_is_err_and c.from_residual-in_err-devices.result c.from_residual-in_err-devices.ensures.1 in
    rw (p.1, p.2) (any_log told before now c.args.names.session.now session_limit ((name, recording_limit) ∷ []) _ c.in_ok-session.ensures.ok)

pub returns-in_err-events-clause-err : goal.returns-in_err-events-clause-err
returns-in_err-events-clause-err g c =
    let told = g.F.Files.entries c.args.files.now in
    let before = g.F.Files.readings c.args.files.now in
    let mid = g.F.Files.readings c.read_session.new.files in
    let now = g.F.Files.readings c.read_events.new.files in
    let fb = g.F.Files.faults c.args.files.now in
    let fm = g.F.Files.faults c.read_session.new.files in
    let fn = g.F.Files.faults c.read_events.new.files in
    let plan = plan_view c.in_ok-session.session in
    let name = c.args.names.events.now in
    let devices : Known = mouse_alone c.args.mouse.now in
    let refusal = c.in_err-events.field-0.0 in
    let p = err_from_is_err_and c.from_residual-in_err-events.result c.from_residual-in_err-events.ensures.1 in
    let why : RefusesFile told mid now name (events_file devices) fm fn refusal =
    subst (λ (ds : Known). RefusesFile told mid now name (events_file ds) fm fn refusal) (ap known c.deref.ensures.value ∙ c.in_ok-devices.ensures)
    (subst (λ (o : Option (List Entry)). RefusesFile o mid now name (events_file (known c.deref.result.now)) fm fn refusal) c.in_ok-session.ensures.files.entries
    c.in_err-events.ensures.err) in
    rw (p.1, p.2)
    (then_by told before mid now c.args.names.session.now session_file ((name, recording_limit) ∷ []) plan (MouseAnswers name c.args.mouse.now) fb fm fn refusal c.in_ok-session.ensures.files.later c.in_ok-session.ensures.ok
    (file_by told mid now name (events_file devices) [] (λ rest given. Ends (HoverAnswers plan given) rest) fm fn refusal why))

pub returns-in_err-hover_text-clause-err : goal.returns-in_err-hover_text-clause-err
returns-in_err-hover_text-clause-err g c =
    let told = g.F.Files.entries c.args.files.now in
    let before = g.F.Files.readings c.args.files.now in
    let mid = g.F.Files.readings c.read_session.new.files in
    let now = g.F.Files.readings c.read_events.new.files in
    let name = c.args.names.events.now in
    let p = err_from_is_err_and c.from_residual-in_err-hover_text.result c.from_residual-in_err-hover_text.ensures.1 in
    let log : Logged told mid now ((name, recording_limit) ∷ []) (λ rs. Unit {0}) =
    subst (λ (o : Option (List Entry)). Logged o mid now ((name, recording_limit) ∷ []) (λ rs. Unit {0})) c.in_ok-session.ensures.files.entries
    (any_log _ mid now name recording_limit [] _ c.in_ok-events.ensures.ok) in
    rw (p.1, p.2) (more_log told before mid now c.args.names.session.now session_file ((name, recording_limit) ∷ []) _ _ c.in_ok-session.ensures.ok log)

pub returns-clause-ok : goal.returns-clause-ok
returns-clause-ok g c =
    let told = g.F.Files.entries c.args.files.now in
    let before = g.F.Files.readings c.args.files.now in
    let mid = g.F.Files.readings c.read_session.new.files in
    let now = g.F.Files.readings c.read_events.new.files in
    let fb = g.F.Files.faults c.args.files.now in
    let fm = g.F.Files.faults c.read_session.new.files in
    let fn = g.F.Files.faults c.read_events.new.files in
    let plan = plan_view c.in_ok-session.session in
    let session = c.args.names.session.now in
    let name = c.args.names.events.now in
    let devices : Known = mouse_alone c.args.mouse.now in
    let one : IsRead told mid now name (events_file devices) (Ok c.deref-2.result.now) =
    subst (λ (es : List RawEvent). IsRead told mid now name (events_file devices) (Ok es)) (sym c.deref-2.ensures.value)
    (subst (λ (ds : Known). IsRead told mid now name (events_file ds) (Ok c.in_ok-events.events.items)) (ap known c.deref.ensures.value ∙ c.in_ok-devices.ensures)
    (subst (λ (o : Option (List Entry)). IsRead o mid now name (events_file (known c.deref.result.now)) (Ok c.in_ok-events.events.items)) c.in_ok-session.ensures.files.entries
    c.in_ok-events.ensures.ok)) in
    file_goes told before mid now session session_file ((name, recording_limit) ∷ []) plan (MouseAnswers name c.args.mouse.now) _ c.in_ok-session.ensures.ok
    (last_file told mid now name (events_file devices) c.deref-2.result.now (HoverAnswers plan) _ one c.in_ok-hover_text.ensures)
