use Rattle.std.proofs.Common.{refl, ap, ◌∙◌, unwrap_or}
use Rattle.dispatcher.proofs.Room.Roomy.{modest_none, still_list}
use Rattle.dispatcher.proofs.Room.Oks.{on_ok}
use Rattle.dispatcher.proofs.Rounds.Moved.{move_sent}
use Rattle.dispatcher.proofs.motions.route_move.Goals as goal

pub send_steadily-requires-clause-steady : goal.send_steadily-requires-clause-steady
send_steadily-requires-clause-steady c = record {
  mark_is = refl;
  motion_is = c.requires.moves;
  watchers_is = refl;
  lost_is = refl;
  gained_is = refl;
}

pub returns-clause-ok : goal.returns-clause-ok
returns-clause-ok c =
    let old = c.args.routing.now in
    on_ok _ _ c.send_steadily.result c.send_steadily.ensures.ok
    (λ from.
    move_sent old c.send_steadily.new.routing c.args.place c.args.clock c.args.motion.now _
    (record {
      mark_is = refl;
      motion_is = refl;
      gift_is = tt;
      target_is = c.unwrap_or.ensures ∙ ap (λ o. unwrap_or o 0) c.target.ensures;
      keys_are = refl;
      lost_is = refl;
      gained_is = refl;
    })
    refl
    refl
    from
    c.requires.moves
    c.requires.none)

pub returns-clause-roomy : goal.returns-clause-roomy
returns-clause-roomy c n roomy =
    let outgoing = c.send_steadily.ensures.roomy n _ roomy (modest_none _ c.args.routing.now.channels) in
    (outgoing.0, still_list n c.args.routing.now c.send_steadily.new.routing c.send_steadily.ensures.list outgoing.1)
