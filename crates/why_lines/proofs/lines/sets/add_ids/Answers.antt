use Rattle.std.proofs.Common.{add-one, arith}
use Rattle.why_lines.proofs.Passing.{all_written, one_more}
use Rattle.why_lines.proofs.lines.sets.add_ids.Goals as goal

pub loop-id-preserved : goal.loop-id-preserved
loop-id-preserved c =
    one_more c.args.ids c.loop-id.id _ c.args.text.now.items c.loop-id.text.items c.add_if_in.new.text.items c.loop-id.is_first c.in_ok-is_first.is_first
    (add-one c.loop-id.id)
    c.loop-id.invariant
    c.in_ok-is_first.ensures.text
    c.in_ok-is_first.ensures.first

pub returns : goal.returns
returns c =
    all_written c.args.ids c.loop-id.id c.args.text.now.items c.loop-id.text.items c.loop-id.is_first (omega (arith, c.loop-id-test.false, c.loop-id.auto.id-end))
    c.loop-id.invariant
