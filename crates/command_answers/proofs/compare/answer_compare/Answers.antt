-- The expected streams are accepted, and the actual ones are read.
use Rattle.std.proofs.Common.{ℕ, List, [], ◌∷◌, Option, Ok, Err, subst, sym}
use Rattle.std.proofs.lemmas.Result.{err_from_is_err_and}
use Rattle.outside_io.specs.Outside.{Entry}
use Rattle.command_files.specs.declared.refusal.Input.TheVariants as input
use Rattle.command_files.specs.Inputs.{stream_limit, want_file}
use Rattle.command_files.specs.Judged.{by_log}
use Rattle.command_files.specs.Logged.{IsRead, IsWhole, Logged, RefusesBy}
use Rattle.command_files.specs.Refused.{bad_want_line}
use Rattle.command_files.proofs.Logs.{file_by, file_goes, then_by}
use Rattle.command_files.proofs.Outcomes.{if_err_map, if_ok_map}
use Rattle.command_files.proofs.FileJudged.{rule_refuses, whole_read}
use Rattle.command_files.proofs.StreamKinds.{stream_refuses, stream_whole}
use Rattle.command_answers.specs.Compare.{GotAnswers}
use Rattle.command_answers.proofs.compare.answer_compare.Goals as goal

pub returns-in_err-bytes-clause-err : goal.returns-in_err-bytes-clause-err
returns-in_err-bytes-clause-err g c =
    let told = g.F.Files.entries c.args.files.now in
    let before = g.F.Files.readings c.args.files.now in
    let now = g.F.Files.readings c.read_stream.new.files in
    let fb = g.F.Files.faults c.args.files.now in
    let fn = g.F.Files.faults c.read_stream.new.files in
    let got = c.args.got.now in
    let p = err_from_is_err_and c.from_residual.result c.from_residual.ensures.1 in
    rw (p.1, p.2)
    (file_by told before now c.args.want.now want_file ((got, stream_limit) ∷ []) (GotAnswers got c.args.rule) fb fn c.in_err-bytes.field-0.0
    (stream_refuses told before now c.args.want.now input.Want bad_want_line fb fn c.in_err-bytes.field-0.0 c.in_err-bytes.ensures.err))

pub returns-in_err-sections-clause-err : goal.returns-in_err-sections-clause-err
returns-in_err-sections-clause-err g c =
    let told = g.F.Files.entries c.args.files.now in
    let before = g.F.Files.readings c.args.files.now in
    let now = g.F.Files.readings c.read_stream.new.files in
    let fb = g.F.Files.faults c.args.files.now in
    let fn = g.F.Files.faults c.read_stream.new.files in
    let bytes : List ℕ = c.deref.result.now in
    let want = c.args.want.now in
    let got = c.args.got.now in
    let whole : IsWhole told before now want stream_limit bytes =
    subst (λ (bs : List ℕ). IsWhole told before now want stream_limit bs) (sym c.deref.ensures.value)
    (stream_whole told before now want c.in_ok-bytes.bytes.items input.Want c.in_ok-bytes.ensures.ok) in
    let p = err_from_is_err_and c.from_residual-in_err-sections.result c.from_residual-in_err-sections.ensures.1 in
    rw (p.1, p.2)
    (file_by told before now want want_file ((got, stream_limit) ∷ []) (GotAnswers got c.args.rule) fb fn c.in_err-sections.field-0.0
    (rule_refuses told before now want want_file bytes fb fn c.in_err-sections.field-0.0 whole c.in_err-sections.ensures.err))

pub returns-clause-ok : goal.returns-clause-ok
returns-clause-ok g c =
    let told = g.F.Files.entries c.args.files.now in
    let before = g.F.Files.readings c.args.files.now in
    let mid = g.F.Files.readings c.read_stream.new.files in
    let now = g.F.Files.readings c.answer_got.new.files in
    let fb = g.F.Files.faults c.args.files.now in
    let fm = g.F.Files.faults c.read_stream.new.files in
    let fn = g.F.Files.faults c.answer_got.new.files in
    let bytes : List ℕ = c.deref.result.now in
    let want = c.args.want.now in
    let got = c.args.got.now in
    let whole : IsWhole told before mid want stream_limit bytes =
    subst (λ (bs : List ℕ). IsWhole told before mid want stream_limit bs) (sym c.deref.ensures.value)
    (stream_whole told before mid want c.in_ok-bytes.bytes.items input.Want c.in_ok-bytes.ensures.ok) in
    let sections = c.in_ok-sections.sections in
    let one : IsRead told before mid want want_file (Ok sections) = whole_read told before mid want want_file bytes _ whole c.in_ok-sections.ensures.ok in
    if_ok_map c.answer_got.result _ _
    (λ text log. file_goes told before mid now want want_file ((got, stream_limit) ∷ []) sections (GotAnswers got c.args.rule) (Ok text) one
    (subst (λ (o : Option (List Entry)). Logged o mid now ((got, stream_limit) ∷ []) (λ rs. GotAnswers got c.args.rule (by_log rs) sections (Ok text))) c.in_ok-bytes.ensures.files.entries log))
    c.answer_got.ensures.ok

pub returns-clause-err : goal.returns-clause-err
returns-clause-err g c =
    let told = g.F.Files.entries c.args.files.now in
    let before = g.F.Files.readings c.args.files.now in
    let mid = g.F.Files.readings c.read_stream.new.files in
    let now = g.F.Files.readings c.answer_got.new.files in
    let fb = g.F.Files.faults c.args.files.now in
    let fm = g.F.Files.faults c.read_stream.new.files in
    let fn = g.F.Files.faults c.answer_got.new.files in
    let bytes : List ℕ = c.deref.result.now in
    let want = c.args.want.now in
    let got = c.args.got.now in
    let whole : IsWhole told before mid want stream_limit bytes =
    subst (λ (bs : List ℕ). IsWhole told before mid want stream_limit bs) (sym c.deref.ensures.value)
    (stream_whole told before mid want c.in_ok-bytes.bytes.items input.Want c.in_ok-bytes.ensures.ok) in
    let sections = c.in_ok-sections.sections in
    let one : IsRead told before mid want want_file (Ok sections) = whole_read told before mid want want_file bytes _ whole c.in_ok-sections.ensures.ok in
    if_err_map c.answer_got.result _ _
    (λ r h. then_by told before mid now want want_file ((got, stream_limit) ∷ []) sections (GotAnswers got c.args.rule) fb fm fn r c.in_ok-bytes.ensures.files.later one
    (subst (λ (o : Option (List Entry)). RefusesBy (λ x. Logged o mid now ((got, stream_limit) ∷ []) (λ rs. GotAnswers got c.args.rule (by_log rs) sections (Err x)))
    (Logged o mid now ((got, stream_limit) ∷ []) (λ rs. Unit {0})) fm fn r) c.in_ok-bytes.ensures.files.entries h))
    c.answer_got.ensures.err
