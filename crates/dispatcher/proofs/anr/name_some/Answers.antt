-- The list of cancelled keys says nothing of a history.
use Rattle.std.proofs.Common.{arith}
use Rattle.dispatcher.specs.Keying.{named_keys}
use Rattle.dispatcher.proofs.Rounds.Cancelling.{same_with, names_with}
use Rattle.dispatcher.proofs.Room.Oks.{on_ok}
use Rattle.dispatcher.proofs.anr.name_some.Goals as goal

pub returns-clause-ok : goal.returns-clause-ok
returns-clause-ok c =
    let old = c.args.routing.now in
    on_ok _ _ c.send_names-named.result c.send_names-named.ensures.ok
    (names_with c.args.mask (named_keys old.focus c.args.mask old.channels) c.args.place c.args.clock _ _ old c.send_names-named.new.routing)

pub returns-clause-err : goal.returns-clause-err
returns-clause-err c =
    same_with c.send_names-named.result _ _ c.args.routing.now c.send_names-named.new.routing c.send_names-named.ensures.err (omega (arith, c.take-keys.ensures, c.keep.ensures, c.send_names-named.ensures.list))
