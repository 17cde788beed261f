use Rattle.std.proofs.Common.{◌++◌, ap, arith, ◌∙◌}
use Rattle.touch_writer_cooks.specs.Reading.{lines}
use Rattle.emit_text.specs.Packets.{path}
use Rattle.emit_text.proofs.Keeping.{keeps_more, keeps_over}
use Rattle.emit_text.proofs.packets.Packets.add_lines.Goals as goal

pub returns-then-self-clause-wrote : goal.returns-then-self-clause-wrote
returns-then-self-clause-wrote c = λ events w.
    let p = c.args.self.now in
    keeps_over events p.events.items p.text.items p.over c.if-self.true w

pub returns-clause-wrote : goal.returns-clause-wrote
returns-clause-wrote c = λ events w.
    let p = c.args.self.now in
    keeps_more events p.events.items p.text.items c.add_events.new.text.items p.over c.len.result c.if-self.false w
    (c.in_ok-add_events.ensures ∙ ap (λ es. p.text.items ++ lines path es) c.deref.ensures.value)
    (omega (arith, c.len.ensures, c.add_events.new.text.ok.0))
