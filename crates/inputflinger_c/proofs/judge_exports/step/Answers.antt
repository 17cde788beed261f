use Rattle.std.proofs.Common.{Err, refl, ap, arith}
use Rattle.std.specs.Prelude.{is_some}
use Rattle.std.specs.Option.{unwrap_or}
use Rattle.plain_calls.specs.Numbers.{flag}
use Rattle.inputflinger_c.specs.Faults.{reason_number}
use Rattle.inputflinger_c.proofs.judge_exports.step.Goals as goal

pub returns-in-Err-Fault : goal.returns-in-Err-Fault
returns-in-Err-Fault c =
    let is = c.in-Err-Fault.ensures.fault c.in-Err-Fault.told (ap (λ e. Err e) c.in-Err-Fault.field-0-is) in
    record {
      one = refl;
      ok = λ e. absurd (omega arith);
      memory = λ e. absurd (omega arith);
      broken = λ e. (
        c.in-Err-Fault.ensures.err,
        rw c.plain_fault.ensures (record {
          refused = is.refused;
          place = is.place;
          held = is.held;
          next_repeat = ap (λ d. unwrap_or d 0) is.next_repeat;
          key_down = ap (λ d. flag (is_some d)) is.next_repeat;
          focus = ap flag is.focus;
          reason = ap reason_number is.reason;
        }),
      );
    }
