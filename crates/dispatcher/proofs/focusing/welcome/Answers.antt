use Rattle.std.proofs.Common.{refl, ap, ◌∙◌, bit_and, unwrap_or}
use Rattle.dispatcher.proofs.Made.Opening.{ready_welcome, welcomes_by}
use Rattle.dispatcher.proofs.Rounds.Refocused.{refocuses_by}
use Rattle.dispatcher.proofs.focusing.welcome.Goals as goal

pub carry_out-requires-clause-ready : goal.carry_out-requires-clause-ready
carry_out-requires-clause-ready c =
    ready_welcome c.args.routing.now.touches _ c.args.routing.now.channels _ c.args.number c.windows-change.result.gained
    (record {
      mark_is = refl;
      motion_is = refl;
      gift_is = refl;
      target_is = refl;
      keys_are = refl;
      lost_is = refl;
      gained_is = ap (λ m. bit_and c.windows-change.result.gained m) c.mask_with.ensures;
    })
    c.requires.room

pub returns : goal.returns
returns c =
    let old = c.args.routing.now in
    welcomes_by c.args.number c.args.place c.args.clock old c.carry_out.new.routing _ c.windows-change.result.gained c.windows-change.new.self
    (record {
      mark_is = refl;
      motion_is = refl;
      gift_is = refl;
      target_is = c.unwrap_or-target.ensures ∙ ap (λ o. unwrap_or o 0) c.target.ensures;
      keys_are = refl;
      lost_is = refl;
      gained_is = ap (λ m. bit_and c.windows-change.result.gained m) c.mask_with.ensures;
    })
    (refocuses_by old.shown.windows _ _ _ old.focus c.windows-change.new.self _ c.windows-change.ensures.state c.focusable-windows.ensures c.windows.ensures
    c.live.ensures.value)
    c.windows-change.ensures.gained
    c.carry_out.ensures.carries
