use Rattle.std.proofs.Common.{◌++◌, length, arith, ap}
use Rattle.std.specs.Prelude.{codes}
use Rattle.std.specs.Fmt.{decimal}
use Rattle.window_snapshot.specs.Mask.{mask_has}
use Rattle.why_lines.proofs.Passing.{first_channel, further_done, further_more}
use Rattle.why_lines.proofs.lines.sets.add_further.Goals as goal

pub loop-rest-smaller : goal.loop-rest-smaller
loop-rest-smaller c =
    let first = c.mask_first-channel in
    omega (
      arith,
      ap length (first_channel (mask_has c.loop-rest.rest) (mask_has c.mask_without-rest.result) first.result first.ensures.range.0 first.ensures.range.1
          first.ensures.has first.ensures.first c.mask_without-rest.ensures.channels),
    )

pub loop-rest-preserved : goal.loop-rest-preserved
loop-rest-preserved c =
    let first = c.mask_first-channel in
    further_more (λ n. codes "," ++ decimal n) c.loop-rest.rest c.mask_without-rest.result first.result _ c.loop-rest.text.items c.add_behind.new.text.items
    first.ensures.range.0
    first.ensures.range.1
    first.ensures.has
    first.ensures.first
    c.mask_without-rest.ensures.channels
    c.in_ok-add_behind.ensures
    c.loop-rest.invariant

pub returns : goal.returns
returns c = further_done (λ n. codes "," ++ decimal n) c.loop-rest.rest _ c.loop-rest.text.items c.loop-rest-test.false c.loop-rest.invariant
