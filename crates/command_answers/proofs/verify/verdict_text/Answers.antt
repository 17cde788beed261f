-- One line more.
use Rattle.std.proofs.Common.{◌≡◌, ◌∙◌, ap, sym, arith, Some, []}
use Rattle.stream_judge.specs.Sections.{sent_after}
use Rattle.stream_judge.proofs.Sections.{one_message, one_section}
use Rattle.command_answers.specs.Judging.{judged_on}
use Rattle.command_answers.proofs.Ties.{IsFresh, after_line, at_start, one_read}
use Rattle.command_answers.proofs.verify.verdict_text.Goals as goal

pub lines-init : goal.lines-init
lines-init c =
    let fresh : IsFresh c.new-judge.result =
    record { none = c.new-judge.ensures.none; channels = c.new-judge.ensures.counts.0; messages = c.new-judge.ensures.counts.1 }
    in record {
      known = ([], c.new-judge.ensures.knows, rw (← c.in-Ok.ensures.ok) (at_start c.new-judge.result c.args.bytes.now fresh));
      channels = omega (arith, c.new-judge.ensures.counts, c.in-Ok.ensures.left);
      messages = omega (arith, c.new-judge.ensures.counts, c.in-Ok.ensures.left);
    }

pub lines-preserved : goal.lines-preserved
lines-preserved c =
    let past = c.lines.invariant.known.0
    in let line = c.next_into.new.says
    in let judges = c.in_ok-judge_line-in-Ok-Some.ensures.ok past c.lines.invariant.known.1
    in let is : c.in-Ok-Some.field-0 ≡ Some c.in-Ok-Some.number = c.in-Ok-Some.field-0-is
    in let read = one_read c.lines.lines c.next_into.new.self c.in-Ok-Some.field-0 c.in-Ok-Some.number line is c.in-Ok-Some.ensures.lines
    in record {
      known = (
        sent_after past line,
        judges.knows,
        sym (after_line past c.in-Ok-Some.number line c.lines.judge c.judge_line.new.self c.next_into.new.self.events judges)
            ∙ ap (judged_on c.lines.judge past) (sym read.0)
            ∙ c.lines.invariant.known.2,
      );
      channels = omega (arith, c.lines.invariant.channels, judges.channels, one_section line, read.1);
      messages = omega (arith, c.lines.invariant.messages, judges.messages, one_message line, read.1);
    }
