use Rattle.dispatcher.specs.WindowCovers.Covers.{cover_in}
use Rattle.dispatcher.proofs.DispatchRound.Telling.{sends_told}
use Rattle.dispatcher.proofs.dispatch_round.say.say_motion.Goals as goal

pub returns : goal.returns
returns c =
    let to = c.args.to.now in
    let m = c.args.motion.now in
    sends_told to m c.flags_under-flags.result _ _ (c.flags_under-flags.ensures (cover_in to.covers.now to.window m.device) c.flags-cover.ensures)
    c.send_motion.ensures c.requires.opened
