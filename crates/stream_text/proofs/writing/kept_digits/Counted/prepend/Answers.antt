use Rattle.std.proofs.Common.{◌-◌, ◌/◌, ◌++◌, length, drop, ap, sym, ◌∙◌, arith, append_assoc}
use Rattle.std.specs.Fmt.{decimal}
use Rattle.std.proofs.lemmas.Fmt.{length-decimal-le}
use Rattle.stream_text.specs.Triple.{triple_digits}
use Rattle.stream_text.proofs.Triples.{based}
use Rattle.stream_text.proofs.writing.kept_digits.Counted.prepend.Goals as goal

pub returns-then-number-self-lt1000-clause-within : goal.returns-then-number-self-lt1000-clause-within
returns-then-number-self-lt1000-clause-within c =
    let long = ap length c.self.invariant.2 in
    let most = length-decimal-le 17 (c.self.inside.base / 1000) (omega arith) (omega arith) (omega arith) in
    (omega arith, omega arith)

pub returns-then-number-self-lt1000-clause-written : goal.returns-then-number-self-lt1000-clause-written
returns-then-number-self-lt1000-clause-written c =
    let base = c.self.inside.base in
    let behind = drop c.args.end c.args.line.now in
    rw (c.prepend.ensures.written, c.self.invariant.2, c.put_triple.ensures.three) (
    sym (
    ap (λ t. t ++ behind) (based base c.args.number c.self.invariant.0 c.self.invariant.1 c.if-self-number.true c.if-number-self-lt1000.true c.ranges.number.fits)
    ∙ append_assoc (decimal (base / 1000)) (triple_digits (c.args.number - base)) behind
    )
    )
