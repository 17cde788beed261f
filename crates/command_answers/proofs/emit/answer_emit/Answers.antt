-- A stream file that is accepted, and the answer for its bytes.
use Rattle.std.proofs.Common.{length, ap, arith}
use Rattle.std.proofs.lemmas.Result.{err_from_is_err_and}
use Rattle.command_answers.specs.Emit.{EmitAnswers}
use Rattle.command_answers.proofs.Streams.{stream_refused, stream_stops, stream_sent}
use Rattle.command_answers.proofs.emit.answer_emit.Goals as goal

pub emitted-requires : goal.emitted-requires
emitted-requires g c = omega (arith, ap length c.deref.ensures.value, c.in_ok-bytes.ensures.few)

pub returns-in_err-bytes-clause-err : goal.returns-in_err-bytes-clause-err
returns-in_err-bytes-clause-err g c =
    let p = err_from_is_err_and c.from_residual.result c.from_residual.ensures.1 in
    rw (p.1, p.2)
    (stream_stops (g.F.Files.entries c.args.files.now) (g.F.Files.readings c.args.files.now) (g.F.Files.readings c.read_stream.new.files) c.args.name.now
    (EmitAnswers c.args.channel c.args.device) (g.F.Files.faults c.args.files.now) (g.F.Files.faults c.read_stream.new.files) c.in_err-bytes.field-0.0 c.in_err-bytes.ensures.err)

pub returns-clause-ok : goal.returns-clause-ok
returns-clause-ok g c =
    stream_sent (g.F.Files.entries c.args.files.now) (g.F.Files.readings c.args.files.now) (g.F.Files.readings c.read_stream.new.files) c.args.name.now _
    c.deref.result.now (EmitAnswers c.args.channel c.args.device) c.emitted.result c.deref.ensures.value c.in_ok-bytes.ensures.ok c.emitted.ensures.ok

pub returns-clause-err : goal.returns-clause-err
returns-clause-err g c =
    stream_refused (g.F.Files.entries c.args.files.now) (g.F.Files.readings c.args.files.now) (g.F.Files.readings c.read_stream.new.files) c.args.name.now _
    c.deref.result.now (EmitAnswers c.args.channel c.args.device) (g.F.Files.faults c.args.files.now) (g.F.Files.faults c.read_stream.new.files) c.emitted.result c.deref.ensures.value
    c.in_ok-bytes.ensures.ok c.emitted.ensures.err
