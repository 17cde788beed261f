-- One more line.
use Rattle.std.proofs.Common.{◌+◌, [], refl, sym, ap, ◌∙◌, arith}
use Rattle.stream_text.specs.StreamFile.{Unread, with_event}
use Rattle.compare_text.specs.declared.section.Opened.{Opened}
use Rattle.compare_text.proofs.Tied.{bad_before, begins, begins_none, begun, ends, id_said, none_left, one_read, passed, starts, starts_bad}
use Rattle.compare_text.proofs.sections.Sections.read.Goals as goal

pub lines-init : goal.lines-init
lines-init c = record {
  good = λ es same. rw c.new-sections.ensures.items (starts c.args.bytes.now c.in-Ok.lines.events c.in-Ok.ensures.ok es same);
  bad = λ line same. starts_bad c.args.bytes.now c.in-Ok.lines.events c.in-Ok.ensures.ok line same;
  few = omega (arith, c.in-Ok.ensures.left);
}

pub lines-preserved-in-Continue-1 : goal.lines-preserved-in-Continue-1
lines-preserved-in-Continue-1 c =
    let line = c.in-Ok-Some.line in
    let says = c.in-Ok-Some.says in
    let read = one_read c.lines.lines c.next.new.self c.in-Ok-Some.field-0 (line, says) c.in-Ok-Some.field-0-is c.in-Ok-Some.ensures.lines in
    let is_channel = begins says c.in-Some.id (sym c.in-Some.ensures) in
    let opened : Opened = record { id = c.in-Some.id; line = line; lines = c.again-lines.result } in
    record {
      good = λ es same.
          begun c.args.bytes.now c.lines.sections.items c.push.new.self.items opened c.lines.messages line c.lines.lines.events c.next.new.self.events es
          c.in_ok-push-in-Some.ensures.items refl (ap (λ (u : Unread). u.events) c.again-lines.ensures)
          (id_said c.in-Ok-Some.field-0 line says c.in-Some.id c.in-Ok-Some.field-0-is c.in-Ok-Some.ensures.says is_channel)
          (read.0 ∙ ap (λ s. with_event (line, s) c.next.new.self.events) is_channel) same c.lines.invariant.good;
      bad = λ bad same. c.lines.invariant.bad bad (bad_before (line, says) c.lines.lines.events c.next.new.self.events bad read.0 same);
      few = omega (arith, c.lines.invariant.few, read.1);
    }

pub lines-preserved : goal.lines-preserved
lines-preserved c =
    let read = one_read c.lines.lines c.next.new.self c.in-Ok-Some.field-0 (c.in-Ok-Some.line, c.in-Ok-Some.says) c.in-Ok-Some.field-0-is c.in-Ok-Some.ensures.lines in
    record {
      good = λ es same.
          passed c.args.bytes.now c.lines.sections.items c.lines.messages _ c.in-Ok-Some.line c.in-Ok-Some.says c.lines.lines.events c.next.new.self.events es
          (begins_none c.in-Ok-Some.says (sym c.in-None.ensures)) (ap (λ n. c.lines.messages + n) c.message_at-messages.ensures.value) read.0 same c.lines.invariant.good;
      bad = λ line same. c.lines.invariant.bad line (bad_before (c.in-Ok-Some.line, c.in-Ok-Some.says) c.lines.lines.events c.next.new.self.events line read.0 same);
      few = omega (arith, c.lines.invariant.few, read.1, c.message_at-messages.ensures.range);
    }

pub invariant_of-result : goal.invariant_of-result
invariant_of-result c =
    let all = ends c.args.bytes.now c.lines.sections.items c.lines.messages (c.lines.invariant.good [] (none_left c.lines.lines c.next.new.self c.in-Ok-None.field-0 c.in-Ok-None.field-0-is c.in-Ok-None.ensures.lines)) in
    (all.0.0, all.0.1, omega (arith, all.0.1, c.lines.auto.messages-fits))

pub returns-in-Ok-None-clause-ok : goal.returns-in-Ok-None-clause-ok
returns-in-Ok-None-clause-ok c = (ends c.args.bytes.now c.lines.sections.items c.lines.messages (c.lines.invariant.good [] (none_left c.lines.lines c.next.new.self c.in-Ok-None.field-0 c.in-Ok-None.field-0-is c.in-Ok-None.ensures.lines))).1
