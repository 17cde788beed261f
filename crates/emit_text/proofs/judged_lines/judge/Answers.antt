use Rattle.std.proofs.Common.{Err, ap}
use Rattle.emit_text.proofs.judged_lines.judge.Goals as goal

pub returns-in-Err-Fault : goal.returns-in-Err-Fault
returns-in-Err-Fault c =
    let fault = c.in-Err-Fault.ensures.fault c.in-Err-Fault.field-0-0 (ap (λ e. Err e) c.in-Err-Fault.field-0-is) in
    rw c.in-Message.is fault.refused
