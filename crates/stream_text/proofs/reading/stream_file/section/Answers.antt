use Rattle.std.proofs.Common.{◌≡◌, Some, arith, sym, ◌∙◌, ap}
use Rattle.std.proofs.lemmas.Result.{err_from_is_err_and}
use Rattle.stream_text.specs.StreamAnswer.{message_sent, opened}
use Rattle.stream_text.proofs.Streams.{begins_bad, opened_more}
use Rattle.stream_text.proofs.reading.stream_file.section.Goals as goal

pub returns-in_err-line-clause-section : goal.returns-in_err-line-clause-section
returns-in_err-line-clause-section c =
    let (error, is, same) = err_from_is_err_and c.from_residual.result c.from_residual.ensures.1 in
    rw (is, same)
    (begins_bad c.args.lines.now.events c.messages.lines.events c.next_line.new.lines.events c.messages.messages.items c.in_err-line.field-0.0
    c.in_err-line.ensures.line
    c.messages.invariant.read)

pub messages-preserved : goal.messages-preserved
messages-preserved c =
    let told : message_sent c.in_ok-line.line ≡ Some c.in-Some.message = sym c.message_of.ensures ∙ c.in-Some.is in
    record {
      read = λ id first.
          rw c.in_ok-push.ensures.items
          (sym (opened_more id first c.messages.messages.items c.in-Some.message c.in_ok-line.line c.next_line.new.lines.events told)
          ∙ ap (opened id first c.messages.messages.items) (sym c.in_ok-line.ensures.line)
          ∙ c.messages.invariant.read id first);
      left = omega (arith, c.in_ok-line.ensures.left, c.messages.invariant.left);
    }
