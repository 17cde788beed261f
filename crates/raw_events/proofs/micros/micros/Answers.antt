use Rattle.raw_events.proofs.SixDigits.{micros_say}
use Rattle.raw_events.proofs.Unended.{micros_unended}
use Rattle.raw_events.proofs.micros.micros.Goals as goal

pub returns-clause-value : goal.returns-clause-value
returns-clause-value c =
    rw c.from.ensures
    (micros_say c.args.text.now c.in_ok-high.high c.in_ok-low.low c.if-text-ne-MICROS_LEN.false c.if-text-ne93.false c.in_ok-high.ensures.value c.in_ok-low.ensures.value)

pub returns-clause-unended : goal.returns-clause-unended
returns-clause-unended c =
    micros_unended c.args.text.now c.in_ok-high.high c.in_ok-low.low c.if-text-ne-MICROS_LEN.false c.if-text-ne93.false c.in_ok-high.ensures.value c.in_ok-low.ensures.value
