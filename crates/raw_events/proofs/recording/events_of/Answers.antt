use Rattle.std.proofs.lemmas.Result.{err_from_is_err_and}
use Rattle.raw_events.specs.Line.{known}
use Rattle.raw_events.proofs.Reading.{first_refused, last_refused, all_told}
use Rattle.raw_events.proofs.recording.events_of.Goals as goal

pub returns-in_err-number : goal.returns-in_err-number
returns-in_err-number c =
    let p = err_from_is_err_and c.from_residual.result c.from_residual.ensures.1 in
    rw (p.1, p.2) (first_refused (known c.args.devices.now) c.args.bytes.now c.in_err-number.field-0.0 c.read_lines.new.events.items (rw c.new-events.ensures.items at c.in_err-number.ensures.told))

pub returns-in_err-tell_last : goal.returns-in_err-tell_last
returns-in_err-tell_last c =
    let p = err_from_is_err_and c.from_residual-in_err-tell_last.result c.from_residual-in_err-tell_last.ensures.1 in
    rw (p.1, p.2)
    (last_refused (known c.args.devices.now) c.args.bytes.now c.in_ok-number.number c.read_lines.new.events.items (rw c.new-events.ensures.items at c.in_ok-number.ensures.told)
    c.in_err-tell_last.field-0.0 c.tell_last.new.events.items (rw c.in_ok-number.ensures.begun at c.in_err-tell_last.ensures))

pub returns : goal.returns
returns c =
    all_told (known c.args.devices.now) c.args.bytes.now c.in_ok-number.number c.read_lines.new.events.items (rw c.new-events.ensures.items at c.in_ok-number.ensures.told)
    c.in_ok-tell_last.field-0 c.tell_last.new.events.items (rw c.in_ok-number.ensures.begun at c.in_ok-tell_last.ensures)
