use Rattle.std.specs.Prelude.{IfSome}
use Rattle.std.specs.Option.{option_copied}
use Rattle.std.proofs.Common.{sym, subst}
use Rattle.route_split.specs.Marking.{AreLosses}
use Rattle.dispatcher.proofs.dispatch_round.send.pilfer_and_send.Goals as goal

pub returns-clause-outgoing : goal.returns-clause-outgoing
returns-clause-outgoing c = record {
  losses = option_copied c.as_ref.result;
  losses_are = subst (λ o. IfSome o (AreLosses c.args.touches.now c.args.round.now.mark)) (sym c.as_ref.ensures.value) c.change-losses.ensures.losses;
  gets = c.send_each.ensures;
}
