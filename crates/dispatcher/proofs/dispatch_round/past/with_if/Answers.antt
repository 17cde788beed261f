use Rattle.std.proofs.Common.{ap, ◌∙◌}
use Rattle.window_snapshot.specs.Mask.{mask_has}
use Rattle.dispatcher.proofs.DispatchRound.PassingEach.{with_window}
use Rattle.dispatcher.proofs.dispatch_round.past.with_if.Goals as goal

pub returns-then-moves : goal.returns-then-moves
returns-then-moves c w =
    ap (λ n. mask_has n w) c.mask_with.ensures ∙ with_window c.args.mask c.args.window w c.args.moves c.requires c.if-moves.true
