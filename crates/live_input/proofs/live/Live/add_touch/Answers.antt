-- The device was not plugged in before.
use Rattle.std.proofs.Common.{Some, None, sym, ap, ◌∙◌, subst}
use Rattle.device_table.specs.Table.{IsFirstFree, is_free, reader_of}
use Rattle.live_input.specs.Standing.{LiveIs}
use Rattle.live_input.specs.State.{LiveState}
use Rattle.live_input.proofs.Handing.{beside_goes}
use Rattle.live_input.proofs.Panels.{fingers_go}
use Rattle.live_input.proofs.Plugged.{others_stay}
use Rattle.live_input.proofs.live.Live.add_touch.Goals as goal

pub returns-clause-stands : goal.returns-clause-stands
returns-clause-stands c = λ ds es h.
    fingers_go ds es _ (beside_goes ds es _ (subst (LiveIs ds es) (sym c.self.view_is) h) c.add_touch.new.self c.self.inside.pending.items c.self.inside.clock) c.self.inside.clock c.set_fingers.new.all

pub returns-clause-added : goal.returns-clause-added
returns-clause-added c = λ ok. (
  subst (λ (s : LiveState). IsFirstFree s.dispatcher.displays s.devices c.args.display (Some c.in-Some.device)) c.self.view_is
      (subst (λ ds. IsFirstFree ds c.self.inside.devices c.args.display (Some c.in-Some.device)) c.displays.ensures
      (subst (λ o. IsFirstFree c.displays.result.now c.self.inside.devices c.args.display o) c.in-Some.is c.first_free.ensures)),
  c.add_touch.ensures.reader,
)

pub returns-clause-others : goal.returns-clause-others
returns-clause-others c = λ d low there.
    let first = subst (λ o. IsFirstFree c.displays.result.now c.self.inside.devices c.args.display o) c.in-Some.is c.first_free.ensures in
    others_stay c.displays.result.now c.args.self.now.devices c.add_touch.new.self c.args.display d c.in-Some.device
    (ap (λ (s : LiveState). is_free c.displays.result.now s.devices c.args.display c.in-Some.device) (sym c.self.view_is) ∙ first.2)
    (λ e l other. c.add_touch.ensures.others e l other ∙ ap (λ (s : LiveState). reader_of s.devices e) c.self.view_is) low there

pub returns-in_default-clause-added : goal.returns-in_default-clause-added
returns-in_default-clause-added c = λ ok.
    subst (λ (s : LiveState). IsFirstFree s.dispatcher.displays s.devices c.args.display None) c.self.view_is
    (subst (λ ds. IsFirstFree ds c.self.inside.devices c.args.display None) c.displays.ensures
    (subst (λ o. IsFirstFree c.displays.result.now c.self.inside.devices c.args.display o) c.in_default.is c.first_free.ensures))
