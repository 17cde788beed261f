use Rattle.std.proofs.Common.{refl, ap, ◌∙◌, unwrap_or}
use Rattle.dispatcher.proofs.Room.Roomy.{modest_none, still_list}
use Rattle.dispatcher.proofs.Room.Oks.{on_ok}
use Rattle.dispatcher.proofs.Rounds.Motioning.{motion_sent}
use Rattle.dispatcher.proofs.motions.route_motion.Goals as goal

pub returns-clause-ok : goal.returns-clause-ok
returns-clause-ok c =
    let old = c.args.routing.now in
    on_ok _ _ c.send.result c.send.ensures.ok
    (λ from.
    motion_sent old c.send.new.routing c.args.place c.args.clock c.args.motion.now _ c.mark_of-mark.result c.live.result c.on.result c.able-able.result
    c.windows-windows.result.now
    c.of-display.result
    (record {
      mark_is = refl;
      motion_is = refl;
      gift_is = tt;
      target_is = c.unwrap_or.ensures ∙ ap (λ o. unwrap_or o 0) c.target.ensures;
      keys_are = refl;
      lost_is = refl;
      gained_is = refl;
    })
    from
    c.windows-windows.ensures
    c.live.ensures.value
    c.able-able.ensures.value
    c.of-display.ensures
    c.on.ensures
    c.mark_of-mark.ensures.mark
    c.watchers.ensures
    c.mark_of-mark.ensures.whole
    c.gift_of.ensures)

pub returns-clause-roomy : goal.returns-clause-roomy
returns-clause-roomy c n roomy =
    let outgoing = c.send.ensures.roomy n _ roomy (modest_none _ c.args.routing.now.channels) in
    (outgoing.0, still_list n c.args.routing.now c.send.new.routing c.send.ensures.list outgoing.1)
