-- The event is given from where the service was eased.
use Rattle.std.proofs.Common.{◌||◌, is_some, w32, inl, inr, refl, sym, ap, ◌∙◌, subst}
use Rattle.std.proofs.lemmas.Bool.{true≢false}
use Rattle.std.proofs.lemmas.Int.{to_z-of_z}
use Rattle.device_reader.specs.Cooked.{number_of}
use Rattle.device_table.specs.Table.{StandsAt, reader_of}
use Rattle.dispatcher.specs.Access.{any_waits, is_waiting}
use Rattle.input_types.specs.DeviceRule.{device_state}
use Rattle.live_input.specs.declared.limit.Limited.{Limited}
use Rattle.live_input.specs.Easing.{KeepsReported}
use Rattle.live_input.specs.Giving.{GivesEvent}
use Rattle.live_input.specs.Room.{GivesAtOnce}
use Rattle.live_input.specs.State.{latest}
use Rattle.live_input.proofs.Eased.{limited}
use Rattle.live_input.proofs.Onward.{calm_is, eased_accepted, eased_is, eased_then, eases_report, latest_again, none_report, reports_after, seats_after, seats_of}
use Rattle.live_input.proofs.Handing.{event_at}
use Rattle.live_input.proofs.Roomy.{less_room, same_room}
use Rattle.live_input.proofs.limit.Limited.event.Goals as goal

pub returns-then-not-has_device-clause-after : goal.returns-then-not-has_device-clause-after
returns-then-not-has_device-clause-after c = λ ds es plan past h st.
    absurd (true≢false (sym (ap is_some st.there) ∙ sym c.has_device.ensures ∙ c.if-not-has_device.true))

pub returns-in-Ok-clause-after : goal.returns-in-Ok-clause-after
returns-in-Ok-clause-after c = λ ds es plan past h st.
    let old = c.args.self.now in
    let eased = c.ease.new.self in
    let new = c.event.new.self in
    let m = latest c.args.now eased.live in
    let whole = to_z-of_z w32 c.args.value c.ranges.value in
    let at = latest_again c.args.now old.live eased.live c.ease.ensures.clock in
    let still = subst (λ xs. StandsAt plan past c.args.device xs) (sym c.ease.ensures.clients.devices_are) st in
    inl
    (eased_then ds (latest c.args.now old.live) es old eased _ (c.in-Ok.ensures.after ds es h)
    (λ fs there. (
      subst (λ t. GivesEvent ds t fs plan past (event_at c.args.device t c.args.kind c.args.code c.args.value) c.event.result eased.live new) at
          (subst (λ v. GivesEvent ds m fs plan past (event_at c.args.device m c.args.kind c.args.code v) c.event.result eased.live new) whole
          (c.event.ensures.after ds fs plan past there still)),
      refl,
    )))

pub returns-in-Err-clause-after : goal.returns-in-Err-clause-after
returns-in-Err-clause-after c = λ ds es plan past h st. inr (refl, c.in-Err.ensures.after ds es h)

pub returns-then-not-has_device-clause-fits : goal.returns-then-not-has_device-clause-fits
returns-then-not-has_device-clause-fits c = λ ds es plan past h st none fed e. absurd cc

pub returns-in-Err-clause-fits : goal.returns-in-Err-clause-fits
returns-in-Err-clause-fits c = λ ds es plan past h st none fed e. absurd cc

pub returns-in-Ok-clause-fits : goal.returns-in-Ok-clause-fits
returns-in-Ok-clause-fits c = λ ds es plan past h st none fed refused.
    let old = c.args.self.now in
    let eased = c.ease.new.self in
    let n = latest c.args.now old.live in
    let part = (c.in-Ok.ensures.after ds es h).1 in
    c.event.ensures.fits ds _ plan past (eased_is ds n es old eased part)
    (subst (λ xs. StandsAt plan past c.args.device xs) (sym c.ease.ensures.clients.devices_are) st)
    (c.ease.ensures.clients.pending_is ∙ none) (ap (device_state (number_of plan)) (eased_accepted ds n part.choked.wanted es) ∙ fed) refused

pub returns-then-not-has_device-clause-reserved : goal.returns-then-not-has_device-clause-reserved
returns-then-not-has_device-clause-reserved c = λ n ds es plan past h calm st idle room few. less_room _ n c.args.self.now.live room

pub returns-in-Err-clause-reserved : goal.returns-in-Err-clause-reserved
returns-in-Err-clause-reserved c = λ n ds es plan past h calm st idle room few. absurd (true≢false (sym (c.in-Err.ensures.calm ds es h calm).0))

pub returns-in-Ok-clause-reserved : goal.returns-in-Ok-clause-reserved
returns-in-Ok-clause-reserved c = λ n ds es plan past h calm st idle.
    let old = c.args.self.now in
    let eased = c.ease.new.self in
    let new = c.event.new.self in
    let m = latest c.args.now eased.live in
    let whole = to_z-of_z w32 c.args.value c.ranges.value in
    let same = (c.in-Ok.ensures.calm ds es h calm).1 in
    let at = latest_again c.args.now old.live eased.live c.ease.ensures.clock in
    let there = calm_is ds es (latest c.args.now old.live) old eased h same in
    let still = subst (λ xs. StandsAt plan past c.args.device xs) (sym c.ease.ensures.clients.devices_are) st in
    let idle_too = ap (λ ps. is_waiting es || any_waits ps) c.ease.ensures.clients.pending_is ∙ idle in
    let goes =
    subst (λ t. GivesAtOnce n es plan past (event_at c.args.device t c.args.kind c.args.code c.args.value) c.event.result eased.live new) at
    (subst (λ v. GivesAtOnce n es plan past (event_at c.args.device m c.args.kind c.args.code v) c.event.result eased.live new) whole
    (c.event.ensures.reserved n ds es plan past there still idle_too)) in
    λ room few. goes (same_room _ old.live eased.live (ap (λ (s : Limited). s.live.dispatcher) same) room) few

pub returns-in-Ok-clause-seats : goal.returns-in-Ok-clause-seats
returns-in-Ok-clause-seats c = seats_after _ _ _ c.ease.ensures.clients c.event.ensures.seats

pub returns-in-Err-clause-seats : goal.returns-in-Err-clause-seats
returns-in-Err-clause-seats c = seats_of _ _ c.ease.ensures.clients

pub returns-in-Ok-clause-named : goal.returns-in-Ok-clause-named
returns-in-Ok-clause-named c = subst (λ m. KeepsReported c.args.self.now.live.reported m) (sym c.event.ensures.named) c.ease.ensures.named

pub returns-in-Ok-clause-others : goal.returns-in-Ok-clause-others
returns-in-Ok-clause-others c = λ d low other.
    c.event.ensures.others d low other ∙ ap (λ xs. reader_of xs d) c.ease.ensures.clients.devices_are

pub returns-in-Err-clause-others : goal.returns-in-Err-clause-others
returns-in-Err-clause-others c = λ d low other. ap (λ xs. reader_of xs d) c.ease.ensures.clients.devices_are

pub returns-then-not-has_device-clause-reports : goal.returns-then-not-has_device-clause-reports
returns-then-not-has_device-clause-reports c = λ ds es h. none_report c.args.self.now

pub returns-in-Ok-clause-reports : goal.returns-in-Ok-clause-reports
returns-in-Ok-clause-reports c = λ ds es h.
    reports_after c.args.self.now c.ease.new.self (limited c.event.new.self c.ease.new.self.wanted) (eases_report ds _ 5 es c.args.self.now c.ease.new.self (c.in-Ok.ensures.after ds es h).1) c.event.ensures.named refl

pub returns-in-Err-clause-reports : goal.returns-in-Err-clause-reports
returns-in-Err-clause-reports c = λ ds es h. let x = c.in-Err.ensures.after ds es h in eases_report ds _ x.0 es c.args.self.now c.ease.new.self x.1
