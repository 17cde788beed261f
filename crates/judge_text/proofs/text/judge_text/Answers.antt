-- One line more.
use Rattle.std.proofs.Common.{◌≡◌, ◌∙◌, ap, sym, arith, [], Some}
use Rattle.stream_judge.specs.Sections.{sent_after}
use Rattle.stream_judge.proofs.Sections.{one_message, one_section}
use Rattle.judge_text.specs.Judging.{judged_on}
use Rattle.judge_text.proofs.Ties.{IsFresh, after_line, at_start, one_read}
use Rattle.judge_text.proofs.text.judge_text.Goals as goal

pub lines-init : goal.lines-init
lines-init c =
    let fresh : IsFresh c.new-judge.result = record {
      broken = c.new-judge.ensures.none.0;
      down = c.new-judge.ensures.none.1;
      sections = c.new-judge.ensures.counts.0;
      messages = c.new-judge.ensures.counts.1;
      lines = c.new-judge.ensures.lines;
    } in record {
      known = ([], c.new-judge.ensures.knows, rw (← c.in-Ok.ensures.ok) (at_start c.new-judge.result c.args.bytes.now fresh));
      sections = omega (arith, c.new-judge.ensures.counts, c.in-Ok.ensures.left);
      messages = omega (arith, c.new-judge.ensures.counts, c.in-Ok.ensures.left);
    }

pub lines-preserved : goal.lines-preserved
lines-preserved c =
    let past = c.lines.invariant.known.0
    in let line = c.in-Ok-Some.line
    in let takes = c.in_ok-take-in-Ok-Some.ensures past c.lines.invariant.known.1
    in let is : c.in-Ok-Some.field-0 ≡ Some (c.in-Ok-Some.number, line) = c.in-Ok-Some.field-0-is
    in let read = one_read c.lines.lines c.next.new.self c.in-Ok-Some.field-0 (c.in-Ok-Some.number, line) is c.in-Ok-Some.ensures.lines
    in record {
      known = (
        sent_after past line,
        takes.knows,
        sym (after_line past c.in-Ok-Some.number line c.lines.judge c.take.new.self c.next.new.self.events takes)
            ∙ ap (judged_on c.lines.judge past) (sym read.0)
            ∙ c.lines.invariant.known.2,
      );
      sections = omega (arith, c.lines.invariant.sections, takes.sections, one_section line, read.1);
      messages = omega (arith, c.lines.invariant.messages, takes.messages, one_message line, read.1);
    }
