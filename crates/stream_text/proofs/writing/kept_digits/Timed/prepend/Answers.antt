use Rattle.std.proofs.Common.{◌≡◌, ◌-◌, ◌/◌, ◌%◌, ◌++◌, length, drop, ap, sym, ◌∙◌, arith, append_assoc}
use Rattle.std.specs.Fmt.{decimal}
use Rattle.std.proofs.lemmas.Fmt.{length-decimal-le}
use Rattle.stream_text.specs.Triple.{triple_digits}
use Rattle.stream_text.proofs.Triples.{based_six}
use Rattle.stream_text.proofs.writing.kept_digits.Timed.prepend.Goals as goal

pub returns-then-moment-self-lt1000000-clause-within : goal.returns-then-moment-self-lt1000000-clause-within
returns-then-moment-self-lt1000000-clause-within c =
    let long = ap length c.self.invariant.2 in
    let most = length-decimal-le 14 (c.self.inside.base / 1000000) (omega arith) (omega arith) (omega arith) in
    (omega arith, omega arith)

pub returns-then-moment-self-lt1000000-clause-written : goal.returns-then-moment-self-lt1000000-clause-written
returns-then-moment-self-lt1000000-clause-written c =
    let base = c.self.inside.base in
    let behind = drop c.args.end c.args.line.now in
    let micros = c.args.moment - base in
    let six : c.args.end - 6 ≡ c.args.end - 3 - 3 = omega arith in
    rw (c.prepend.ensures.written, c.self.invariant.2, six, c.put_triple-then-moment-self-lt1000000.ensures.three, c.put_triple.ensures.three) (
    sym (
    ap (λ t. t ++ behind) (based_six base c.args.moment c.self.invariant.0 c.self.invariant.1 c.if-self-moment.true c.if-moment-self-lt1000000.true c.ranges.moment.fits)
    ∙ append_assoc (decimal (base / 1000000) ++ triple_digits (micros / 1000)) (triple_digits (micros % 1000)) behind
    ∙ append_assoc (decimal (base / 1000000)) (triple_digits (micros / 1000)) (triple_digits (micros % 1000) ++ behind)
    )
    )
