use Rattle.std.proofs.Common.{◌≡◌, ◌+◌, ◌∷◌, ◌++◌, [], Some, None, false, arith, rules, sym, subst, ◌∙◌}
use Rattle.stream_judge.specs.Breaks.{Passes}
use Rattle.batch_text.specs.Frames.{calls_from}
use Rattle.batch_text.specs.Sections.{message_at}
use Rattle.batch_text.proofs.Messages.{one_more, section_broken, section_end}
use Rattle.batch_text.proofs.section.section.Goals as goal

pub returns-in_default-clause-ok : goal.returns-in_default-clause-ok
returns-in_default-clause-ok c =
    let (messages, s) = c.messages.invariant.known in
    let none : message_at c.in_ok-line.line ≡ None = sym c.in_default.ensures in
    section_end c.args.frame messages c.args.lines.now.events c.messages.lines.events c.next_line.new.lines.events c.messages.judge c.args.text.now.items c.messages.text.items
    c.end.new.text.items
    c.messages.batches
    c.in_ok-line.line
    s
    c.in_ok-line.ensures.ok
    none
    (c.in_ok-end.ensures (calls_from c.args.frame [] messages) c.args.text.now.items s.written)

pub returns-then-not-branch-clause-err : goal.returns-then-not-branch-clause-err
returns-then-not-branch-clause-err c = λ first numbers.
    let (messages, s) = c.messages.invariant.known in
    let is : message_at c.in_ok-line.line ≡ Some (c.in-Some.number, c.in-Some.message.now) =
    first_of (cc (c.in-Some.ensures), cc (c.in-Some.ensures, c.in-Some.number-is, c.in-Some.message-is), search (rules, c.in-Some.ensures)) in
    let breaks = subst (λ v. Passes messages c.in-Some.message.now v c.take.new.self) c.if-not-branch.true (c.in_ok-take.ensures.ok messages s.passed) in
    section_broken c.args.frame messages c.args.lines.now.events c.messages.lines.events c.next_line.new.lines.events c.messages.judge c.args.text.now.items c.messages.text.items
    c.messages.batches
    c.in_ok-line.line
    c.in-Some.number
    c.in-Some.message.now
    c.refusal.result
    s
    c.in_ok-line.ensures.ok
    is
    breaks
    c.refusal.ensures
    first
    numbers

pub messages-preserved : goal.messages-preserved
messages-preserved c =
    let (messages, s) = c.messages.invariant.known in
    let is : message_at c.in_ok-line.line ≡ Some (c.in-Some.number, c.in-Some.message.now) =
    first_of (cc (c.in-Some.ensures), cc (c.in-Some.ensures, c.in-Some.number-is, c.in-Some.message-is), search (rules, c.in-Some.ensures)) in
    let passed = subst (λ v. Passes messages c.in-Some.message.now v c.take.new.self) c.if-not-branch.false (c.in_ok-take.ensures.ok messages s.passed) in
    record {
      known = (
        messages ++ c.in-Some.message.now ∷ [],
        one_more c.args.frame messages c.args.lines.now.events c.messages.lines.events c.next_line.new.lines.events c.messages.judge c.take.new.self c.args.text.now.items
            c.messages.text.items
            c.take-in-messages.new.text.items
            c.messages.batches
            c.take-in-messages.new.self
            c.in_ok-line.line
            c.in-Some.number
            c.in-Some.message.now
            s
            c.in_ok-line.ensures.ok
            is
            passed
            (c.in_ok-take-2.ensures (calls_from c.args.frame [] messages) c.args.text.now.items s.written),
      );
      left = omega (arith, c.in_ok-line.ensures.left, c.messages.invariant.left);
    }
