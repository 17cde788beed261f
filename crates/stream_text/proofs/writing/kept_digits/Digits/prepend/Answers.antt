use Rattle.std.proofs.Common.{◌≡◌, ◌+◌, ◌-◌, ◌++◌, drop, ap, arith}
use Rattle.stream_text.proofs.Places.{drop_put}
use Rattle.stream_text.proofs.writing.kept_digits.Digits.prepend.Goals as goal

pub returns-clause-written : goal.returns-clause-written
returns-clause-written c =
    let end = c.args.end in
    let len = c.self.inside.len in
    let from : end - len ≡ end - 16 + (16 - len) = omega arith in
    let long : end - (end - 16) ≡ 16 = omega arith in
    let behind : end - 16 + 16 ≡ end = omega arith in
    rw (from, long, drop_put (end - 16) (16 - len) 16 c.args.line.now c.copy_from_slice.new.self (omega (arith, c.told-line)) (omega arith) (omega arith), c.copy_from_slice.ensures.after, behind)
    (ap (λ t. t ++ drop end c.args.line.now) c.self.view_is)
