use Rattle.std.proofs.Common.{◌∙◌, refl, arith}
use Rattle.std.proofs.lemmas.Result.{err_from_is_err_and}
use Rattle.std.proofs.Math.Seq.{take-length}
use Rattle.raw_events.specs.Line.{known, sent}
use Rattle.raw_events.specs.Pieces.{parts}
use Rattle.raw_events.proofs.Telling.{line_told, line_stopped, line_begins}
use Rattle.raw_events.proofs.piece.read_quick.Goals as goal

pub lines-init : goal.lines-init
lines-init c = record { told = refl; begun = refl; front = c.requires; before = take-length c.args.events.now.items; within = omega arith }

pub returns-in_err-number-clause-told : goal.returns-in_err-number-clause-told
returns-in_err-number-clause-told c =
    let p = err_from_is_err_and c.from_residual.result c.from_residual.ensures.1 in
    rw (p.1, p.2)
    (line_stopped (known c.args.devices.now) c.in-Some.ensures.line.text (parts c.in-Some.after.now).ended _ c.lines.number _ c.args.events.now.items c.lines.events.items c.tell_fields.new.events.items
    (rw (c.in-Some.ensures.line.says) at c.in_err-number.ensures) (rw (c.in-Some.ensures.line.cut) at c.lines.invariant.told) c.lines.invariant.before)

pub lines-preserved : goal.lines-preserved
lines-preserved c = record {
  told = line_told (known c.args.devices.now) c.in-Some.ensures.line.text (parts c.in-Some.after.now).ended c.in_ok-number.number c.lines.number c.lines.events.items c.tell_fields.new.events.items
      (rw (c.in-Some.ensures.line.says) at c.in_ok-number.ensures) ∙ (rw (c.in-Some.ensures.line.cut) at c.lines.invariant.told);
  begun = (rw (c.in-Some.ensures.line.cut) at c.lines.invariant.begun);
  front = c.quick_fields.ensures.front;
  before = line_begins c.args.events.now.items c.lines.events.items c.tell_fields.new.events.items (sent c.quick_fields.new.front.device c.quick_fields.new.front.moment c.in-Some.fields) c.in_ok-number.number c.lines.number c.in_ok-number.ensures c.lines.invariant.before;
  within = omega (arith, c.in-Some.ensures.line.shorter, c.lines.invariant.within);
}
