use Rattle.std.proofs.Common.{◌≤◌, arith}
use Rattle.raw_events.proofs.Numbers.{within_power}
use Rattle.raw_events.proofs.line.seconds.Goals as goal

pub returns-clause-bound : goal.returns-clause-bound
returns-clause-bound c =
    let short : c.digits_in_front-len.result ≤ 12 = omega arith in
    within_power c.decimal_at.result c.digits_in_front-len.result 12 short c.decimal_at.ensures.bound
