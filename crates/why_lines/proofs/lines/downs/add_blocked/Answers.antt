use Rattle.std.proofs.Common.{length, arith, ap}
use Rattle.window_snapshot.specs.Mask.{mask_has}
use Rattle.why_text.specs.Lines.{blocked_word}
use Rattle.why_lines.specs.Causes.{blocked_by, walled_by}
use Rattle.why_lines.proofs.Passing.{first_channel, further_done, further_more}
use Rattle.why_lines.proofs.lines.downs.add_blocked.Goals as goal

pub loop-rest-smaller : goal.loop-rest-smaller
loop-rest-smaller c =
    let first = c.mask_first-channel in
    omega (
      arith,
      ap length (first_channel (mask_has c.loop-rest.rest) (mask_has c.mask_without-rest.result) first.result first.ensures.range.0 first.ensures.range.1
          first.ensures.has first.ensures.first c.mask_without-rest.ensures.channels),
    )

pub loop-rest-preserved : goal.loop-rest-preserved
loop-rest-preserved c =
    let first = c.mask_first-channel in
    further_more (blocked_word (blocked_by c.args.blocked.now) (walled_by c.args.blocked.now)) c.loop-rest.rest c.mask_without-rest.result first.result _ c.loop-rest.text.items
    c.add_one_blocked.new.text.items
    first.ensures.range.0
    first.ensures.range.1
    first.ensures.has
    first.ensures.first
    c.mask_without-rest.ensures.channels
    c.in_ok-add_one_blocked.ensures
    c.loop-rest.invariant

pub returns : goal.returns
returns c =
    further_done (blocked_word (blocked_by c.args.blocked.now) (walled_by c.args.blocked.now)) c.loop-rest.rest _ c.loop-rest.text.items c.loop-rest-test.false c.loop-rest.invariant
