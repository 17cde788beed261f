use Rattle.std.proofs.Common.{◌≤◌, length}
use Rattle.std.proofs.lemmas.Result.{err_from_is_err_and}
use Rattle.raw_events.specs.Line.{known}
use Rattle.raw_events.specs.Pieces.{parts, tell}
use Rattle.raw_events.proofs.Parts.{begun_unended}
use Rattle.raw_events.proofs.Steps.{step_on, step_too_long, step_stopped}
use Rattle.raw_events.proofs.piece.read_fresh.Goals as goal

pub keep-requires-clause-unended : goal.keep-requires-clause-unended
keep-requires-clause-unended c = rw (c.in_ok-number.ensures.begun) (begun_unended c.args.bytes.now)

pub returns-in_err-number-clause-read : goal.returns-in_err-number-clause-read
returns-in_err-number-clause-read c =
    let p = err_from_is_err_and c.from_residual.result c.from_residual.ensures.1 in
    rw (p.1, p.2) (step_stopped c.in_err-number.field-0.0 (tell (known c.args.devices.now) c.args.number (parts c.args.bytes.now).ended) (parts c.args.bytes.now).begun c.args.kept.now.items c.args.events.now.items c.read_lines.new.events.items c.in_err-number.ensures.told)

pub returns-in_err-keep-clause-read : goal.returns-in_err-keep-clause-read
returns-in_err-keep-clause-read c =
    let p = err_from_is_err_and c.from_residual-in_err-keep.result c.from_residual-in_err-keep.ensures.1 in
    let long = rw (c.clear.ensures.items, c.in_ok-number.ensures.begun) at c.in_err-keep.ensures.longer in
    rw (p.1, p.2, long.0)
    (step_too_long (tell (known c.args.devices.now) c.args.number (parts c.args.bytes.now).ended) c.in_ok-number.number (parts c.args.bytes.now).begun c.keep.new.kept.items c.args.kept.now.items c.args.events.now.items c.read_lines.new.events.items
    c.in_ok-number.ensures.told long.1)

pub returns-clause-read : goal.returns-clause-read
returns-clause-read c =
    let keeps = rw (c.clear.ensures.items, c.in_ok-number.ensures.begun) at c.in_ok-keep.ensures.longer in
    let short : length (parts c.args.bytes.now).begun ≤ 4096 = rw (keeps) at c.in_ok-keep.ensures.kept.short in
    step_on (tell (known c.args.devices.now) c.args.number (parts c.args.bytes.now).ended) c.in_ok-number.number (parts c.args.bytes.now).begun c.keep.new.kept.items c.args.kept.now.items c.args.events.now.items c.read_lines.new.events.items
    c.in_ok-number.ensures.told short keeps
