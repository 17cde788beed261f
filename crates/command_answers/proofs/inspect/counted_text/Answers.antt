-- The file of a recording, what is counted of it, and its text.
use Rattle.std.proofs.Common.{[], ◌∷◌, Ok, Err, refl, sym, subst}
use Rattle.std.proofs.lemmas.Result.{err_from_is_err_and}
use Rattle.command_files.specs.declared.refusal.Refusal.{Refusal}
use Rattle.command_files.specs.declared.refusal.Input.TheVariants as input
use Rattle.command_files.specs.Devices.{devices_of}
use Rattle.command_files.specs.Inputs.{lined_file, recording_limit}
use Rattle.command_files.specs.Judged.{Ends, by_log}
use Rattle.command_files.specs.Logged.{Logged, RefusesBy}
use Rattle.command_files.proofs.Logs.{any_log, file_by, file_fed, log_same, so_by}
use Rattle.command_files.proofs.Outcomes.{if_err_map, if_ok_map}
use Rattle.command_files.proofs.FileJudged.{read_refused}
use Rattle.command_answers.specs.Inspect.{CountsAnswer, InspectAnswers, session_view}
use Rattle.command_answers.proofs.inspect.counted_text.Goals as goal

pub returns-in_err-counting-clause-err : goal.returns-in_err-counting-clause-err
returns-in_err-counting-clause-err g c =
    let told = g.F.Files.entries c.args.files.now in
    let before = g.F.Files.readings c.args.files.now in
    let stops = err_from_is_err_and c.from_residual.result c.from_residual.ensures.1 in
    rw (stops.1, stops.2) (log_same told before before ((c.args.name.now, recording_limit) ∷ []) (λ rs. Unit {0}) refl tt)

pub returns-in-Ok-clause-ok : goal.returns-in-Ok-clause-ok
returns-in-Ok-clause-ok g c =
    let told = g.F.Files.entries c.args.files.now in
    let before = g.F.Files.readings c.args.files.now in
    let now = g.F.Files.readings c.feed_file.new.files in
    let session = session_view c.args.session.now in
    let file = c.in-Ok.ensures.ok in
    if_ok_map c.ended_text.result _ _
    (λ text j. file_fed told before now c.args.name.now (lined_file (devices_of session.0)) _ (InspectAnswers session) (Ok text) file j)
    (c.ended_text.ensures.ok file.reading.given (file.holds.1.1 session.0 [] c.in_ok-counting.ensures))

pub returns-in-Ok-clause-err : goal.returns-in-Ok-clause-err
returns-in-Ok-clause-err g c =
    let told = g.F.Files.entries c.args.files.now in
    let before = g.F.Files.readings c.args.files.now in
    let now = g.F.Files.readings c.feed_file.new.files in
    let session = session_view c.args.session.now in
    let file = c.in-Ok.ensures.ok in
    if_err_map c.ended_text.result _ _
    (λ r h. so_by _ _ _ (g.F.Files.faults c.args.files.now) (g.F.Files.faults c.feed_file.new.files) r
    (λ x j. file_fed told before now c.args.name.now (lined_file (devices_of session.0)) _ (InspectAnswers session) (Err x) file j)
    (any_log told before now c.args.name.now recording_limit [] _ file) h)
    (c.ended_text.ensures.err file.reading.given (file.holds.1.1 session.0 [] c.in_ok-counting.ensures))

pub returns-in-Err-clause-err : goal.returns-in-Err-clause-err
returns-in-Err-clause-err g c =
    let told = g.F.Files.entries c.args.files.now in
    let before = g.F.Files.readings c.args.files.now in
    let now = g.F.Files.readings c.feed_file.new.files in
    let fb = g.F.Files.faults c.args.files.now in
    let fn = g.F.Files.faults c.feed_file.new.files in
    let session = session_view c.args.session.now in
    let kind = lined_file (devices_of session.0) in
    subst (λ (r : Refusal). RefusesBy (λ x. Logged told before now ((c.args.name.now, recording_limit) ∷ []) (λ rs. CountsAnswer c.args.name.now (by_log rs) session (Err x)))
    (Logged told before now ((c.args.name.now, recording_limit) ∷ []) (λ rs. Unit {0})) fb fn r) (sym c.read_refusal.ensures)
    (file_by told before now c.args.name.now kind [] (λ rest given. Ends (InspectAnswers session given) rest) fb fn _
    (read_refused told before now c.args.name.now kind fb fn input.Recording c.in-Err.error refl refl c.in-Err.ensures.err))
