use Rattle.std.proofs.Common.{sym, ◌∙◌, ap, Some, arith}
use Rattle.raw_events.proofs.Fields.{usual_says, usual_plain}
use Rattle.raw_events.proofs.Unended.{usual_unended, usual_last}
use Rattle.raw_events.proofs.usual.usual_fields.Goals as goal

pub returns-clause-fields : goal.returns-clause-fields
returns-clause-fields c =
    usual_says c.args.text.now c.in_ok-kind.kind c.in_ok-code.code c.in_ok-high.high c.in_ok-low.low c.if-text-ne-USUAL_LEN.false c.if-text-ne32.false c.if-text-ne32-2.false
    c.in_ok-kind.ensures.value c.in_ok-code.ensures.value c.in_ok-high.ensures.value c.in_ok-low.ensures.value
    ∙ ap (λ f. Some f) (sym c.fields_from.ensures)

pub returns-clause-plain : goal.returns-clause-plain
returns-clause-plain c = usual_plain c.args.text.now c.in_ok-kind.kind c.if-text-ne-USUAL_LEN.false c.in_ok-kind.ensures.value

pub returns-clause-unended : goal.returns-clause-unended
returns-clause-unended c =
    usual_unended c.args.text.now c.in_ok-kind.kind c.in_ok-code.code c.in_ok-high.high c.in_ok-low.low c.if-text-ne-USUAL_LEN.false c.if-text-ne32.false c.if-text-ne32-2.false
    c.in_ok-kind.ensures.value c.in_ok-code.ensures.value c.in_ok-high.ensures.value c.in_ok-low.ensures.value

pub returns-clause-digit : goal.returns-clause-digit
returns-clause-digit c =
    (omega (arith, c.if-text-ne-USUAL_LEN.false), usual_last c.args.text.now c.in_ok-low.low c.if-text-ne-USUAL_LEN.false c.in_ok-low.ensures.value)
