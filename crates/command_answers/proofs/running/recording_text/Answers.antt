-- The file of a recording and its text.
use Rattle.std.proofs.Common.{[], ◌∷◌, Ok, Err, refl, sym, subst}
use Rattle.command_files.specs.declared.refusal.Refusal.{Refusal}
use Rattle.command_files.specs.declared.refusal.Input.TheVariants as input
use Rattle.command_files.specs.Devices.{devices_of}
use Rattle.command_files.specs.Inputs.{events_file, recording_limit}
use Rattle.command_files.specs.Judged.{Ends, by_log}
use Rattle.command_files.specs.Logged.{Logged, RefusesBy}
use Rattle.command_files.proofs.Logs.{any_log, file_by, file_fed, so_by}
use Rattle.command_files.proofs.Outcomes.{if_err_map, if_ok_map}
use Rattle.command_files.proofs.FileJudged.{read_refused}
use Rattle.command_answers.specs.Running.{RecordingSends, RunSends, lines_of}
use Rattle.command_answers.proofs.running.recording_text.Goals as goal

pub returns-in-Ok-clause-ok : goal.returns-in-Ok-clause-ok
returns-in-Ok-clause-ok g c = λ p begins.
    let told = g.F.Files.entries c.args.files.now in
    let before = g.F.Files.readings c.args.files.now in
    let now = g.F.Files.readings c.feed_file-fed.new.files in
    let file = c.in-Ok.ensures.ok in
    if_ok_map c.ended_text.result _ _
    (λ text j. file_fed told before now c.args.name.now (events_file (devices_of p)) _ (RunSends c.args.sending p) (Ok text) file j)
    (c.ended_text.ensures.ok p file.reading.given begins.channels begins.script (file.holds.1.1 (lines_of c.args.sending) p [] begins.script begins.taken))

pub returns-in-Ok-clause-err : goal.returns-in-Ok-clause-err
returns-in-Ok-clause-err g c = λ p begins.
    let told = g.F.Files.entries c.args.files.now in
    let before = g.F.Files.readings c.args.files.now in
    let now = g.F.Files.readings c.feed_file-fed.new.files in
    let file = c.in-Ok.ensures.ok in
    if_err_map c.ended_text.result _ _
    (λ r h. so_by _ _ _ (g.F.Files.faults c.args.files.now) (g.F.Files.faults c.feed_file-fed.new.files) r
    (λ x j. file_fed told before now c.args.name.now (events_file (devices_of p)) _ (RunSends c.args.sending p) (Err x) file j)
    (any_log told before now c.args.name.now recording_limit [] _ file) h)
    (c.ended_text.ensures.err p file.reading.given begins.channels begins.script (file.holds.1.1 (lines_of c.args.sending) p [] begins.script begins.taken))

pub returns-in-Err-clause-err : goal.returns-in-Err-clause-err
returns-in-Err-clause-err g c = λ p begins.
    let told = g.F.Files.entries c.args.files.now in
    let before = g.F.Files.readings c.args.files.now in
    let now = g.F.Files.readings c.feed_file-fed.new.files in
    let fb = g.F.Files.faults c.args.files.now in
    let fn = g.F.Files.faults c.feed_file-fed.new.files in
    let kind = events_file (devices_of p) in
    subst (λ (r : Refusal). RefusesBy (λ x. Logged told before now ((c.args.name.now, recording_limit) ∷ []) (λ rs. RecordingSends c.args.sending c.args.name.now (by_log rs) p (Err x)))
    (Logged told before now ((c.args.name.now, recording_limit) ∷ []) (λ rs. Unit {0})) fb fn r) (sym c.read_refusal.ensures)
    (file_by told before now c.args.name.now kind [] (λ rest given. Ends (RunSends c.args.sending p given) rest) fb fn _
    (read_refused told before now c.args.name.now kind fb fn input.Recording c.in-Err.error refl refl c.in-Err.ensures.err))
