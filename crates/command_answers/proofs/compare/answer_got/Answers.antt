-- The actual streams are accepted, and compared with the expected ones.
use Rattle.std.proofs.Common.{ℕ, List, [], Ok, subst, sym}
use Rattle.std.proofs.lemmas.Result.{err_from_is_err_and}
use Rattle.command_files.specs.declared.refusal.Input.TheVariants as input
use Rattle.command_files.specs.Inputs.{got_file, stream_limit}
use Rattle.command_files.specs.Judged.{Ends}
use Rattle.command_files.specs.Logged.{IsRead, IsWhole}
use Rattle.command_files.specs.Refused.{bad_got_line}
use Rattle.command_files.proofs.Logs.{file_by, last_by, last_file}
use Rattle.command_files.proofs.Outcomes.{if_err_map, if_ok_map}
use Rattle.command_files.proofs.FileJudged.{rule_refuses, whole_read}
use Rattle.command_files.proofs.StreamKinds.{stream_refuses, stream_whole}
use Rattle.command_answers.specs.Compare.{SameAnswers}
use Rattle.command_answers.proofs.compare.answer_got.Goals as goal

pub returns-in_err-bytes-clause-err : goal.returns-in_err-bytes-clause-err
returns-in_err-bytes-clause-err g c =
    let told = g.F.Files.entries c.args.files.now in
    let before = g.F.Files.readings c.args.files.now in
    let now = g.F.Files.readings c.read_stream.new.files in
    let fb = g.F.Files.faults c.args.files.now in
    let fn = g.F.Files.faults c.read_stream.new.files in
    let p = err_from_is_err_and c.from_residual.result c.from_residual.ensures.1 in
    rw (p.1, p.2)
    (file_by told before now c.args.name.now got_file [] (λ rest came. Ends (SameAnswers c.args.rule c.args.want.now came) rest) fb fn c.in_err-bytes.field-0.0
    (stream_refuses told before now c.args.name.now input.Got bad_got_line fb fn c.in_err-bytes.field-0.0 c.in_err-bytes.ensures.err))

pub returns-in_err-got-clause-err : goal.returns-in_err-got-clause-err
returns-in_err-got-clause-err g c =
    let told = g.F.Files.entries c.args.files.now in
    let before = g.F.Files.readings c.args.files.now in
    let now = g.F.Files.readings c.read_stream.new.files in
    let fb = g.F.Files.faults c.args.files.now in
    let fn = g.F.Files.faults c.read_stream.new.files in
    let bytes : List ℕ = c.deref.result.now in
    let name = c.args.name.now in
    let whole : IsWhole told before now name stream_limit bytes =
    subst (λ (bs : List ℕ). IsWhole told before now name stream_limit bs) (sym c.deref.ensures.value)
    (stream_whole told before now name c.in_ok-bytes.bytes.items input.Got c.in_ok-bytes.ensures.ok) in
    let p = err_from_is_err_and c.from_residual-in_err-got.result c.from_residual-in_err-got.ensures.1 in
    rw (p.1, p.2)
    (file_by told before now name got_file [] (λ rest came. Ends (SameAnswers c.args.rule c.args.want.now came) rest) fb fn c.in_err-got.field-0.0
    (rule_refuses told before now name got_file bytes fb fn c.in_err-got.field-0.0 whole c.in_err-got.ensures.err))

pub returns-clause-ok : goal.returns-clause-ok
returns-clause-ok g c =
    let told = g.F.Files.entries c.args.files.now in
    let before = g.F.Files.readings c.args.files.now in
    let now = g.F.Files.readings c.read_stream.new.files in
    let bytes : List ℕ = c.deref.result.now in
    let name = c.args.name.now in
    let whole : IsWhole told before now name stream_limit bytes =
    subst (λ (bs : List ℕ). IsWhole told before now name stream_limit bs) (sym c.deref.ensures.value)
    (stream_whole told before now name c.in_ok-bytes.bytes.items input.Got c.in_ok-bytes.ensures.ok) in
    let one : IsRead told before now name got_file (Ok c.in_ok-got.got) = whole_read told before now name got_file bytes _ whole c.in_ok-got.ensures.ok in
    if_ok_map c.compared.result _ _
    (λ text h. last_file told before now name got_file c.in_ok-got.got (SameAnswers c.args.rule c.args.want.now) (Ok text) one h)
    c.compared.ensures.ok

pub returns-clause-err : goal.returns-clause-err
returns-clause-err g c =
    let told = g.F.Files.entries c.args.files.now in
    let before = g.F.Files.readings c.args.files.now in
    let now = g.F.Files.readings c.read_stream.new.files in
    let fb = g.F.Files.faults c.args.files.now in
    let fn = g.F.Files.faults c.read_stream.new.files in
    let bytes : List ℕ = c.deref.result.now in
    let name = c.args.name.now in
    let whole : IsWhole told before now name stream_limit bytes =
    subst (λ (bs : List ℕ). IsWhole told before now name stream_limit bs) (sym c.deref.ensures.value)
    (stream_whole told before now name c.in_ok-bytes.bytes.items input.Got c.in_ok-bytes.ensures.ok) in
    let one : IsRead told before now name got_file (Ok c.in_ok-got.got) = whole_read told before now name got_file bytes _ whole c.in_ok-got.ensures.ok in
    if_err_map c.compared.result _ _
    (λ r h. last_by told before now name got_file c.in_ok-got.got (SameAnswers c.args.rule c.args.want.now) fb fn r one h)
    c.compared.ensures.err
