use Rattle.std.proofs.Common.{◌≡◌, ℕ, Bool, false, ◌&&◌, ◌||◌, List, refl, sym, ap, subst, ◌∙◌, unwrap_or}
use Rattle.input_types.specs.declared.key.KeyMsg.{KeyMsg}
use Rattle.window_snapshot.specs.Mask.{mask_has}
use Rattle.window_snapshot.proofs.Masks.{mask_has-zero}
use Rattle.route_split.specs.declared.mark.Mark.{Mark}
use Rattle.focus_resolver.specs.declared.resolver.Change.{Change}
use Rattle.dispatcher.specs.DispatchRound.Rounds.{may_take, keyed}
use Rattle.dispatcher.specs.Carrying.{IsSilent}
use Rattle.dispatcher.specs.Roomy.{AreModest}
use Rattle.dispatcher.proofs.Room.Oks.{on_ok}
use Rattle.dispatcher.proofs.carry.send_still.Goals as goal

-- A round that is silent concerns no window.
none_concerned : (mark : Mark) (keys : List KeyMsg) (change : Change) (target w : ℕ) (gives : Bool) → IsSilent mark keys change
    → ((may_take mark && gives) || mask_has (keyed keys target) w || mask_has change.lost w || mask_has change.gained w) ≡ false
none_concerned mark keys change target w gives silent =
    let lost = mask_has change.lost w in
    let gained = mask_has change.gained w in
    ap (λ b. (b && gives) || mask_has (keyed keys target) w || lost || gained) silent.takes_none
    ∙ ap (λ ks. mask_has (keyed ks target) w || lost || gained) silent.no_keys
    ∙ ap (λ b. b || lost || gained) (mask_has-zero w)
    ∙ ap (λ b. b || gained) (silent.none_lost w)
    ∙ silent.none_gained w

pub returns-clause-ok : goal.returns-clause-ok
returns-clause-ok c =
    on_ok _ _ c.send.result c.send.ensures.ok
    (λ from.
    record {
      round = _;
      is =
          record {
            mark_is = refl;
            motion_is = refl;
            gift_is = refl;
            target_is = c.unwrap_or.ensures ∙ ap (λ o. unwrap_or o 0) c.target.ensures;
            keys_are = refl;
            lost_is = refl;
            gained_is = refl;
          };
      carries = from;
    })

pub returns-clause-calm : goal.returns-clause-calm
returns-clause-calm c silent =
    c.send.ensures.calm (λ w. none_concerned c.args.mark c.args.keys.now c.args.change.now c.unwrap_or.result w _ silent)

pub returns-clause-roomy : goal.returns-clause-roomy
returns-clause-roomy c n list roomy modest =
    c.send.ensures.roomy n list roomy
    (subst (λ t. AreModest t c.args.keys.now c.args.routing.now.channels) (sym (c.unwrap_or.ensures ∙ ap (λ o. unwrap_or o 0) c.target.ensures)) modest)
