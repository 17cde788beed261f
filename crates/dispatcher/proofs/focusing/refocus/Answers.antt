-- The list of cancelled keys says nothing of a history.
use Rattle.std.proofs.Common.{arith}
use Rattle.dispatcher.specs.Keying.{lost_keys}
use Rattle.dispatcher.proofs.Rounds.Cancelling.{same_with, carries_with}
use Rattle.dispatcher.proofs.Room.Oks.{on_ok}
use Rattle.dispatcher.proofs.focusing.refocus.Goals as goal

pub returns-clause-ok : goal.returns-clause-ok
returns-clause-ok c =
    let old = c.args.routing.now in
    let change = c.args.change.now in
    on_ok _ _ c.send_change-outgoing.result c.send_change-outgoing.ensures.ok
    (carries_with c.args.mark (lost_keys old.focus change.target old.channels) change.lost change.gained c.args.place c.args.clock _ _ old c.send_change-outgoing.new.routing)

pub returns-clause-err : goal.returns-clause-err
returns-clause-err c =
    same_with c.send_change-outgoing.result _ _ c.args.routing.now c.send_change-outgoing.new.routing c.send_change-outgoing.ensures.err (omega (arith, c.take-keys.ensures, c.keep.ensures, c.send_change-outgoing.ensures.list))
