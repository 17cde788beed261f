-- The list of cancelled keys says nothing of a history.
use Rattle.std.proofs.Common.{suc, Some, sym, subst, arith}
use Rattle.input_types.specs.declared.message.Args.TheVariants.{Reset as ResetOf}
use Rattle.dispatch_calls.specs.declared.reply.Reply.TheVariants.{Dispatched}
use Rattle.dispatcher.proofs.Rounds.Cancelling.{same_with, pumps_with}
use Rattle.dispatcher.specs.Roomy.{IsRoomy}
use Rattle.dispatcher.proofs.Room.Roomy.{longer}
use Rattle.dispatcher.proofs.Room.Oks.{on_ok}
use Rattle.dispatcher.proofs.key_steps.route_reset.Goals as goal

pub returns-clause-ok : goal.returns-clause-ok
returns-clause-ok c =
    on_ok _ _ c.send_reset-outgoing.result c.send_reset-outgoing.ensures.ok
    (pumps_with (Some (ResetOf c.args.device)) Dispatched c.args.place c.args.clock _ _ c.args.routing.now c.send_reset-outgoing.new.routing)

pub returns-clause-roomy : goal.returns-clause-roomy
returns-clause-roomy c n roomy =
    let old = c.args.routing.now in
    let outgoing = c.send_reset-outgoing.ensures.roomy n (subst (λ l. IsRoomy (suc n) l old.channels) (sym c.take-keys.ensures) roomy) in
    (outgoing.0, longer n _ _ c.send_reset-outgoing.new.routing.channels (omega (arith, c.keep.ensures, c.send_reset-outgoing.ensures.list)) outgoing.1)

pub returns-clause-err : goal.returns-clause-err
returns-clause-err c =
    same_with c.send_reset-outgoing.result _ _ c.args.routing.now c.send_reset-outgoing.new.routing c.send_reset-outgoing.ensures.err (omega (arith, c.take-keys.ensures, c.keep.ensures, c.send_reset-outgoing.ensures.list))
