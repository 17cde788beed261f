-- The head, the lines, what was not released, and the end; the other channels keep theirs.
use Rattle.std.proofs.Common.{◌≡◌, ◌∙◌, ◌++◌, drop, reverse, refl, sym, ap, subst, arith, append_assoc}
use Rattle.std.specs.Option.{unwrap_or}
use Rattle.std.proofs.lemmas.Result.{on_ok_weaker, on_err_weaker}
use Rattle.dispatcher.specs.Access.{gone}
use Rattle.dispatch_history.specs.Due.{counts}
use Rattle.dispatch_history.specs.Effect.{stream}
use Rattle.stream_text.specs.Spelling.{channel_line, message_lines}
use Rattle.stream_text.specs.StreamsHistory.{unopened}
use Rattle.schedule.specs.Lines.{lines_first}
use Rattle.schedule.specs.Printing.{Prints, end_of}
use Rattle.schedule.proofs.Sections.{first_part, head_and_lines, lines_taken}
use Rattle.schedule.proofs.Stepping.{on_err_any}
use Rattle.schedule.proofs.Written.{lines_split, section_is}
use Rattle.schedule.proofs.schedule.Schedule.take_section.Goals as goal

pub returns-clause-section : goal.returns-clause-section
returns-clause-section c = λ plan es r there_is within.
    let before = subst (Prints plan es c.args.channel) (sym c.self.view_is) r in
    let outgoing = reverse (stream es c.args.channel) in
    let n = gone c.self.inside.dispatcher c.args.channel in
    let left = message_lines (drop n outgoing) in
    let drained = lines_taken c.args.channel c.take_lines.result.items before there_is within c.take_lines.ensures.value in
    let end = end_of c.args.channel (unwrap_or (counts es c.args.channel) unopened) in
    let rest : c.in_ok-rest_text.field-0.items ≡ left ++ end = c.in_ok-rest_text.ensures es before.stands there_is in
    on_ok_weaker c.push-3.result
    (λ e.
    section_is c.args.text.now c.push.new.self c.push-2.new.self (c.push-2.new.self ++ left) c.push-3.new.self
    (channel_line c.args.channel c.args.name.now) (lines_first es c.args.channel n) left (message_lines outgoing) end
    (c.in_ok-push.ensures.ok ∙ ap (λ ls. c.args.text.now ++ ls) c.in_ok-head_text.ensures)
    (c.in_ok-push-2.ensures.ok ∙ ap (λ ls. c.push.new.self ++ ls) drained)
    refl
    (e ∙ ap (λ ls. c.push-2.new.self ++ ls) rest ∙ sym (append_assoc c.push-2.new.self left end))
    (lines_split n outgoing))
    c.push-3.ensures.ok

pub returns-clause-after : goal.returns-clause-after
returns-clause-after c = λ plan es r.
    let before = subst (Prints plan es c.args.channel) (sym c.self.view_is) r in
    record {
      stands = before.stands;
      drained = λ d one le high.
          c.take_lines.ensures.others d one (λ same. omega (arith, le, same)) ∙ before.drained d one (omega (arith, le)) (rw (← c.take_lines.ensures.len) high);
      as_many = c.take_lines.ensures.len ∙ before.as_many;
    }

-- the head alone was put behind the text
pub returns-in_err-push-2-clause-err : goal.returns-in_err-push-2-clause-err
returns-in_err-push-2-clause-err c = λ plan es r there_is within.
    let head = channel_line c.args.channel c.args.name.now in
    let outgoing = reverse (stream es c.args.channel) in
    let end = end_of c.args.channel (unwrap_or (counts es c.args.channel) unopened) in
    on_err_any c.from_residual-in_err-push-2.result _
    (first_part c.args.text.now c.push-2.new.self (head ++ message_lines outgoing ++ end) head (message_lines outgoing ++ end)
    (c.in_err-push-2.ensures.err ∙ c.in_ok-push.ensures.ok ∙ ap (λ ls. c.args.text.now ++ ls) c.in_ok-head_text.ensures)
    (append_assoc head (message_lines outgoing) end))

-- the head and the lines
pub returns-in_err-rest_text-clause-err : goal.returns-in_err-rest_text-clause-err
returns-in_err-rest_text-clause-err c = λ plan es r there_is within.
    let before = subst (Prints plan es c.args.channel) (sym c.self.view_is) r in
    let outgoing = reverse (stream es c.args.channel) in
    let n = gone c.self.inside.dispatcher c.args.channel in
    let drained = lines_taken c.args.channel c.take_lines.result.items before there_is within c.take_lines.ensures.value in
    on_err_any c.from_residual-in_err-rest_text.result _
    (head_and_lines c.args.text.now c.push.new.self c.push-2.new.self (channel_line c.args.channel c.args.name.now)
    (lines_first es c.args.channel n) (message_lines (drop n outgoing)) (message_lines outgoing)
    (end_of c.args.channel (unwrap_or (counts es c.args.channel) unopened))
    (c.in_ok-push.ensures.ok ∙ ap (λ ls. c.args.text.now ++ ls) c.in_ok-head_text.ensures)
    (c.in_ok-push-2.ensures.ok ∙ ap (λ ls. c.push.new.self ++ ls) drained)
    (lines_split n outgoing))

pub returns-clause-err : goal.returns-clause-err
returns-clause-err c = λ plan es r there_is within.
    let before = subst (Prints plan es c.args.channel) (sym c.self.view_is) r in
    let outgoing = reverse (stream es c.args.channel) in
    let n = gone c.self.inside.dispatcher c.args.channel in
    let drained = lines_taken c.args.channel c.take_lines.result.items before there_is within c.take_lines.ensures.value in
    on_err_weaker c.push-3.result
    (λ e.
    head_and_lines c.args.text.now c.push.new.self c.push-3.new.self (channel_line c.args.channel c.args.name.now)
    (lines_first es c.args.channel n) (message_lines (drop n outgoing)) (message_lines outgoing)
    (end_of c.args.channel (unwrap_or (counts es c.args.channel) unopened))
    (c.in_ok-push.ensures.ok ∙ ap (λ ls. c.args.text.now ++ ls) c.in_ok-head_text.ensures)
    (e ∙ c.in_ok-push-2.ensures.ok ∙ ap (λ ls. c.push.new.self ++ ls) drained)
    (lines_split n outgoing))
    c.push-3.ensures.err
