use Rattle.std.proofs.Common.{[], arith, refl, subst}
use Rattle.std.proofs.lemmas.Result.{err_from_is_err_and}
use Rattle.emit_text.proofs.Lines.{refused_file, start_rest}
use Rattle.emit_text.proofs.Ties.{AnswersLines, of_file}
use Rattle.emit_text.proofs.text.emit_text.Goals as goal

pub returns-in_err-lines-clause-err : goal.returns-in_err-lines-clause-err
returns-in_err-lines-clause-err c =
    let (error, is, same) = err_from_is_err_and c.from_residual.result c.from_residual.ensures.1 in
    rw (is, same) (refused_file c.args.bytes.now c.args.channel c.args.device c.in_err-lines.field-0.0 (c.in_err-lines.ensures.err c.in_err-lines.field-0.0 refl))

pub lines-init : goal.lines-init
lines-init c =
    let e = c.new-emission.result in
    let s = c.new-emission.ensures in
    record {
      known = (
        [],
        s.wrote,
        λ answer h.
            of_file c.args.bytes.now c.args.channel c.args.device answer
            (subst (λ r. AnswersLines c.args.channel c.args.device r answer) c.in_ok-lines.ensures.ok
            (start_rest e c.args.channel c.args.device c.in_ok-lines.lines.lines answer s.stage s.given.0 s.given.1 s.writer h)),
      );
      slots = rw s.writer refl;
      used = rw s.writer (omega (arith, c.in_ok-lines.ensures.left));
      spent = rw s.stage tt;
    }
