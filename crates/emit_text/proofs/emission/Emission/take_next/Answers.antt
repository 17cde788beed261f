use Rattle.emit_text.proofs.Lines.{message_refused, section_ends}
use Rattle.emit_text.proofs.emission.Emission.take_next.Goals as goal

pub returns-in_default : goal.returns-in_default
returns-in_default c = λ events w is. section_ends c.args.self.now events c.args.line c.args.says.now is c.in_default.not-Message w

pub returns-in-Err : goal.returns-in-Err
returns-in-Err c = λ events w is.
    message_refused c.refuse.result c.args.self.now c.refuse.new.self c.write.new.self.packets events c.args.line c.args.says.now c.in-Message.message c.in-Err.error
    c.in-Message.is
    is
    w
    c.in-Err.ensures.err
    c.refuse.ensures.stays.0
    c.refuse.ensures.refused
