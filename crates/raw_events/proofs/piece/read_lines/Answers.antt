use Rattle.std.proofs.Common.{◌≡◌, ◌∙◌, refl, sym, ap, Ok, take, length}
use Rattle.std.proofs.lemmas.Result.{err_from_is_err_and}
use Rattle.std.proofs.Math.Seq.{take-length}
use Rattle.std.proofs.lemmas.List.{append-nil}
use Rattle.raw_events.specs.Line.{known}
use Rattle.raw_events.specs.Pieces.{parts, tell}
use Rattle.raw_events.specs.Kept.{behind}
use Rattle.raw_events.proofs.Telling.{line_told, line_stopped, line_begins, begins_both, front_stopped}
use Rattle.raw_events.proofs.piece.read_lines.Goals as goal

pub lines-init : goal.lines-init
lines-init c = record { told = refl; begun = refl; front = tt; before = take-length c.args.events.now.items }

pub returns-in_err-next-clause-told : goal.returns-in_err-next-clause-told
returns-in_err-next-clause-told c =
    let p = err_from_is_err_and c.from_residual.result c.from_residual.ensures.1 in
    rw (p.1, p.2)
    (line_stopped (known c.args.devices.now) c.in-Some.ensures.line.text (parts c.in-Some.after.now).ended _ c.lines.number _ c.args.events.now.items c.lines.events.items c.tell_line.new.events.items
    (rw (c.in-Some.ensures.line.says) at c.in_err-next.ensures) (rw (c.in-Some.ensures.line.cut) at c.lines.invariant.told) c.lines.invariant.before)

pub returns-in_err-behind-clause-told : goal.returns-in_err-behind-clause-told
returns-in_err-behind-clause-told c =
    let devices = known c.args.devices.now in
    let lines = (parts c.in-Some.after.now).ended in
    let mid = c.tell_line.new.events.items in
    let p = err_from_is_err_and c.from_residual-in_err-behind.result c.from_residual-in_err-behind.ensures.1 in
    let told : behind mid (tell devices c.in_ok-next.next lines) ≡ behind c.args.events.now.items (tell devices c.args.number (parts c.args.bytes.now).ended) =
    line_told devices c.in-Some.ensures.line.text lines c.in_ok-next.next c.lines.number c.lines.events.items mid
    (rw (c.in-Some.ensures.line.says) at c.in_ok-next.ensures) ∙ (rw (c.in-Some.ensures.line.cut) at c.lines.invariant.told) in
    let first : take (length c.args.events.now.items) mid ≡ c.args.events.now.items =
    line_begins c.args.events.now.items c.lines.events.items mid c.in-Some.said c.in_ok-next.next c.lines.number c.in_ok-next.ensures c.lines.invariant.before in
    rw (p.1, p.2)
    (front_stopped c.in_err-behind.field-0.0 (tell devices c.in_ok-next.next lines) (tell devices c.args.number (parts c.args.bytes.now).ended) c.args.events.now.items mid c.read_alike.new.events.items
    c.in_err-behind.ensures.told told first)

pub lines-preserved : goal.lines-preserved
lines-preserved c =
    let devices = known c.args.devices.now in
    let lines = (parts c.in-Some.after.now).ended in
    let mid = c.tell_line.new.events.items in
    let told : behind mid (tell devices c.in_ok-next.next lines) ≡ behind c.args.events.now.items (tell devices c.args.number (parts c.args.bytes.now).ended) =
    line_told devices c.in-Some.ensures.line.text lines c.in_ok-next.next c.lines.number c.lines.events.items mid
    (rw (c.in-Some.ensures.line.says) at c.in_ok-next.ensures) ∙ (rw (c.in-Some.ensures.line.cut) at c.lines.invariant.told) in
    let first : take (length c.args.events.now.items) mid ≡ c.args.events.now.items =
    line_begins c.args.events.now.items c.lines.events.items mid c.in-Some.said c.in_ok-next.next c.lines.number c.in_ok-next.ensures c.lines.invariant.before in
    let alike = c.in_ok-behind.ensures.told in
    record {
      told = alike.0 ∙ told;
      begun = alike.1 ∙ (rw (c.in-Some.ensures.line.cut) at c.lines.invariant.begun);
      front = c.read_alike.ensures.front;
      before = begins_both c.args.events.now.items mid c.read_alike.new.events.items first alike.2;
    }

pub returns-clause-told : goal.returns-clause-told
returns-clause-told c =
    ap (λ es. record { events = es; next = Ok c.lines.number }) (sym (append-nil c.lines.events.items)) ∙ (rw c.in_default.ensures.line at c.lines.invariant.told)

pub returns-clause-begun : goal.returns-clause-begun
returns-clause-begun c = rw c.in_default.ensures.line at c.lines.invariant.begun
