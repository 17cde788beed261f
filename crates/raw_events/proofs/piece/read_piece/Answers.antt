use Rattle.std.proofs.Common.{◌≡◌, ◌++◌, sym}
use Rattle.std.proofs.lemmas.List.{append-nil}
use Rattle.std.proofs.lemmas.Result.{err_from_is_err_and}
use Rattle.raw_events.specs.Line.{known, judged}
use Rattle.raw_events.specs.Pieces.{parts}
use Rattle.raw_events.proofs.Parts.{kept_line, kept_begun}
use Rattle.raw_events.proofs.Steps.{ended_too_long, ended_stopped, behind_line, going_on_long, going_on_short}
use Rattle.raw_events.proofs.piece.read_piece.Goals as goal

pub returns-in_err-keep-in-Some-clause-read : goal.returns-in_err-keep-in-Some-clause-read
returns-in_err-keep-in-Some-clause-read c =
    let p = err_from_is_err_and c.from_residual.result c.from_residual.ensures.1 in
    let long = c.in_err-keep-in-Some.ensures.longer in
    rw (p.1, p.2, long.0, kept_line c.args.kept.now.items c.in-Some.end.now _ c.args.piece.now _ c.requires.unended c.in-Some.ensures.parts)
    (ended_too_long (known c.args.devices.now) c.args.number (c.args.kept.now.items ++ c.in-Some.end.now) _ c.keep.new.kept.items c.args.kept.now.items _ c.args.events.now.items long.1)

pub returns-in_err-number-in-Some-clause-read : goal.returns-in_err-number-in-Some-clause-read
returns-in_err-number-in-Some-clause-read c =
    let p = err_from_is_err_and c.from_residual-in_err-number-in-Some.result c.from_residual-in_err-number-in-Some.ensures.1 in
    let line : c.judge-line.result ≡ judged (known c.args.devices.now) (c.args.kept.now.items ++ c.in-Some.end.now) = rw (c.as_slice.ensures.value, c.in_ok-keep-in-Some.ensures.longer) at c.judge-line.ensures in
    rw (p.1, p.2, c.in_ok-keep-in-Some.ensures.longer, kept_line c.args.kept.now.items c.in-Some.end.now _ c.args.piece.now _ c.requires.unended c.in-Some.ensures.parts)
    (ended_stopped (known c.args.devices.now) c.args.number c.in_err-number-in-Some.field-0.0 (c.args.kept.now.items ++ c.in-Some.end.now) _ c.args.kept.now.items c.in-Some.end.now _ c.args.events.now.items c.tell_line.new.events.items
    (rw line at c.in_err-number-in-Some.ensures))

pub returns-in_err-keep-in-None-clause-read : goal.returns-in_err-keep-in-None-clause-read
returns-in_err-keep-in-None-clause-read c =
    let p = err_from_is_err_and c.from_residual-in_err-keep-in-None.result c.from_residual-in_err-keep-in-None.ensures.1 in
    let long = c.in_err-keep-in-None.ensures.longer in
    rw (p.1, p.2, long.0, kept_begun c.args.kept.now.items c.args.piece.now c.args.piece.now c.requires.unended c.in-None.ensures.parts)
    (sym (append-nil c.args.events.now.items), going_on_long c.args.number (c.args.kept.now.items ++ c.args.piece.now) long.1)

pub returns-in_ok-number-in-Some-clause-read : goal.returns-in_ok-number-in-Some-clause-read
returns-in_ok-number-in-Some-clause-read c =
    let line : c.judge-line.result ≡ judged (known c.args.devices.now) (c.args.kept.now.items ++ c.in-Some.end.now) = rw (c.as_slice.ensures.value, c.in_ok-keep-in-Some.ensures.longer) at c.judge-line.ensures in
    rw (kept_line c.args.kept.now.items c.in-Some.end.now _ c.args.piece.now _ c.requires.unended c.in-Some.ensures.parts)
    (behind_line (known c.args.devices.now) c.args.number c.in_ok-number-in-Some.number (c.args.kept.now.items ++ c.in-Some.end.now) (parts c.in-Some.after.now).begun c.args.kept.now.items c.in-Some.end.now c.read_fresh-in-Some.new.kept.items (parts c.in-Some.after.now).ended
    c.args.events.now.items c.tell_line.new.events.items c.read_fresh-in-Some.new.events.items (rw line at c.in_ok-number-in-Some.ensures) c.read_fresh-in-Some.result
    (rw (c.in_ok-keep-in-Some.ensures.longer) at c.read_fresh-in-Some.ensures.read))

pub returns-in_ok-keep-in-None-clause-read : goal.returns-in_ok-keep-in-None-clause-read
returns-in_ok-keep-in-None-clause-read c =
    rw (kept_begun c.args.kept.now.items c.args.piece.now c.args.piece.now c.requires.unended c.in-None.ensures.parts)
    (sym (append-nil c.args.events.now.items), rw (c.in_ok-keep-in-None.ensures.longer) (going_on_short c.args.number (c.args.kept.now.items ++ c.args.piece.now) (rw (c.in_ok-keep-in-None.ensures.longer) at c.in_ok-keep-in-None.ensures.kept.short)))
