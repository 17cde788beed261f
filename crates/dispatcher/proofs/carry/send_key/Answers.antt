use Rattle.std.proofs.Common.{[], ◌∷◌, refl, sym, ap, subst, ◌∙◌, unwrap_or}
use Rattle.dispatcher.specs.Roomy.{AreModest}
use Rattle.dispatcher.proofs.Room.Oks.{on_ok}
use Rattle.dispatcher.proofs.carry.send_key.Goals as goal

pub send_steadily-requires-clause-steady : goal.send_steadily-requires-clause-steady
send_steadily-requires-clause-steady c = record {
  mark_is = refl;
  motion_is = tt;
  watchers_is = refl;
  lost_is = refl;
  gained_is = refl;
}

pub returns-clause-ok : goal.returns-clause-ok
returns-clause-ok c =
    on_ok _ _ c.send_steadily.result c.send_steadily.ensures.ok
    (λ from.
    record {
      round = _;
      is =
          record {
            mark_is = refl;
            motion_is = refl;
            gift_is = refl;
            target_is = c.unwrap_or.ensures ∙ ap (λ o. unwrap_or o 0) c.target.ensures;
            keys_are = refl;
            lost_is = refl;
            gained_is = refl;
          };
      carries = from;
    })

pub returns-clause-roomy : goal.returns-clause-roomy
returns-clause-roomy c n list roomy modest =
    c.send_steadily.ensures.roomy n list roomy
    (subst (λ t. AreModest t (c.args.message ∷ []) c.args.routing.now.channels) (sym (c.unwrap_or.ensures ∙ ap (λ o. unwrap_or o 0) c.target.ensures)) modest)
