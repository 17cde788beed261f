use Rattle.std.proofs.Common.{◌≤◌, Some, ap, sym, ◌∙◌, subst}
use Rattle.std.specs.Option.{option_copied}
use Rattle.dispatcher.proofs.DispatchRound.Steadily.{gets_moved, gets_nothing}
use Rattle.dispatcher.proofs.dispatch_round.steady.say_steady.Goals as goal

pub move_held-requires-clause-pointers : goal.move_held-requires-clause-pointers
move_held-requires-clause-pointers c = c.found.invariant

pub returns-in-Some : goal.returns-in-Some
returns-in-Some c =
    gets_moved c.found.inside.motion.now c.args.round.now c.args.touches.now c.args.to.now c.args.channels.now c.move_held.new.channels
    c.requires.steady
    (sym c.requires.motion ∙ ap option_copied c.in-Some.is ∙ ap Some (sym c.found.view_is))
    (subst (λ n. 1 ≤ n) c.get-number.ensures.value c.get-number.ensures.range.0)
    (subst (λ n. n ≤ 8) c.get-number.ensures.value c.get-number.ensures.range.1)
    c.move_held.ensures

pub returns-in-None : goal.returns-in-None
returns-in-None c =
    gets_nothing c.args.round.now c.args.touches.now c.args.to.now c.args.channels.now c.requires.steady
    (sym c.requires.motion ∙ ap option_copied c.in-None.is)
