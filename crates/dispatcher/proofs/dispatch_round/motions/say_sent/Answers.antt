use Rattle.std.proofs.Common.{◌≤◌, subst}
use Rattle.dispatcher.proofs.DispatchRound.Getting.{gets_found}
use Rattle.dispatcher.proofs.dispatch_round.motions.say_sent.Goals as goal

pub returns : goal.returns
returns c lost =
    gets_found c.args.round.now c.args.touches.now c.args.to.now c.args.channels.now c.say_found.new.channels c.args.motion.now c.sends-sends.result c.args.before
    c.mask_has-watches.result
    lost
    c.requires.motion
    (subst (λ n. 1 ≤ n) c.get-number.ensures.value c.get-number.ensures.range.0)
    (subst (λ n. n ≤ 8) c.get-number.ensures.value c.get-number.ensures.range.1)
    c.mask_has-watches.ensures
    c.requires.before
    c.sends-sends.ensures
    c.say_found.ensures
