use Rattle.std.proofs.Common.{arith}
use Rattle.dispatcher.proofs.DispatchChannels.Noting.{noted_more}
use Rattle.dispatcher.proofs.dispatch_channels.noted.note_all.Goals as goal

pub loop-place-preserved : goal.loop-place-preserved
loop-place-preserved c = (
  noted_more c.args.clock c.args.mask c.loop-place.place c.args.channels.now c.index-channels-place.result c.args.anrs.now.items c.loop-place.anrs.items
      c.note.new.anrs.items
      c.mask_has.result
      c.anr_if-anr.result
      c.loop-place.invariant.0
      c.loop-place-test.true
      c.index-channels-place.is
      c.mask_has.ensures
      c.anr_if-anr.ensures
      c.note.ensures.items,
  omega (arith, c.loop-place.invariant.1, c.note.ensures.len, c.note.ensures.capacity, c.loop-place-test.true),
  omega (arith, c.loop-place.invariant.2, c.note.ensures.len),
)
