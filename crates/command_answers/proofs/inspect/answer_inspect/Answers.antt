-- A session that is accepted, and the text about it and its recording.
use Rattle.std.proofs.Common.{List, [], ◌∷◌, Option, Ok, Err, subst}
use Rattle.std.proofs.lemmas.Result.{err_from_is_err_and}
use Rattle.outside_io.specs.Outside.{Entry}
use Rattle.command_files.specs.Inputs.{keyed_file, recording_limit}
use Rattle.command_files.specs.Judged.{by_log}
use Rattle.command_files.specs.Logged.{Logged, RefusesBy}
use Rattle.command_files.proofs.Logs.{file_by, file_goes, then_by}
use Rattle.command_files.proofs.Outcomes.{if_err_map, if_ok_map}
use Rattle.command_answers.specs.Inspect.{CountsAnswer, session_view}
use Rattle.command_answers.proofs.inspect.answer_inspect.Goals as goal

pub returns-in_err-session-clause-err : goal.returns-in_err-session-clause-err
returns-in_err-session-clause-err g c =
    let told = g.F.Files.entries c.args.files.now in
    let before = g.F.Files.readings c.args.files.now in
    let now = g.F.Files.readings c.read_keyed_session.new.files in
    let fb = g.F.Files.faults c.args.files.now in
    let fn = g.F.Files.faults c.read_keyed_session.new.files in
    let events = c.args.names.events.now in
    let stops = err_from_is_err_and c.from_residual.result c.from_residual.ensures.1 in
    rw (stops.1, stops.2)
    (file_by told before now c.args.names.session.now keyed_file ((events, recording_limit) ∷ []) (CountsAnswer events) fb fn c.in_err-session.field-0.0 c.in_err-session.ensures.err)

pub returns-clause-ok : goal.returns-clause-ok
returns-clause-ok g c =
    let told = g.F.Files.entries c.args.files.now in
    let before = g.F.Files.readings c.args.files.now in
    let mid = g.F.Files.readings c.read_keyed_session.new.files in
    let now = g.F.Files.readings c.counted_text.new.files in
    let session = session_view c.in_ok-session.session in
    let events = c.args.names.events.now in
    if_ok_map c.counted_text.result _ _
    (λ text log. file_goes told before mid now c.args.names.session.now keyed_file ((events, recording_limit) ∷ []) session (CountsAnswer events) (Ok text)
    c.in_ok-session.ensures.ok
    (subst (λ (o : Option (List Entry)). Logged o mid now ((events, recording_limit) ∷ []) (λ rs. CountsAnswer events (by_log rs) session (Ok text)))
    c.in_ok-session.ensures.files.entries log))
    c.counted_text.ensures.ok

pub returns-clause-err : goal.returns-clause-err
returns-clause-err g c =
    let told = g.F.Files.entries c.args.files.now in
    let before = g.F.Files.readings c.args.files.now in
    let mid = g.F.Files.readings c.read_keyed_session.new.files in
    let now = g.F.Files.readings c.counted_text.new.files in
    let fb = g.F.Files.faults c.args.files.now in
    let fm = g.F.Files.faults c.read_keyed_session.new.files in
    let fn = g.F.Files.faults c.counted_text.new.files in
    let session = session_view c.in_ok-session.session in
    let events = c.args.names.events.now in
    if_err_map c.counted_text.result _ _
    (λ r h. then_by told before mid now c.args.names.session.now keyed_file ((events, recording_limit) ∷ []) session (CountsAnswer events) fb fm fn r
    c.in_ok-session.ensures.files.later c.in_ok-session.ensures.ok
    (subst (λ (o : Option (List Entry)). RefusesBy (λ x. Logged o mid now ((events, recording_limit) ∷ []) (λ rs. CountsAnswer events (by_log rs) session (Err x)))
    (Logged o mid now ((events, recording_limit) ∷ []) (λ rs. Unit {0})) fm fn r) c.in_ok-session.ensures.files.entries h))
    c.counted_text.ensures.err
