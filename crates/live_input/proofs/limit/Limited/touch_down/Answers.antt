-- The finger goes down from where the service was eased.
use Rattle.std.proofs.Common.{◌≡◌, ◌||◌, ℤ, is_some, w32, inl, inr, refl, sym, ap, ◌∙◌, subst}
use Rattle.std.proofs.lemmas.Bool.{true≢false}
use Rattle.std.proofs.lemmas.Int.{to_z-of_z}
use Rattle.device_table.specs.Table.{StandsAt, reader_of}
use Rattle.dispatcher.specs.Access.{any_waits, is_waiting}
use Rattle.live_input.specs.Easing.{KeepsReported}
use Rattle.live_input.specs.Fingers.{TouchGoes, TouchGoesAtOnce, down}
use Rattle.live_input.specs.declared.slots.Fingers.{Fingers}
use Rattle.live_input.specs.Slots.{fingers_of}
use Rattle.live_input.specs.State.{latest}
use Rattle.live_input.proofs.Eased.{limited}
use Rattle.live_input.proofs.Onward.{calm_is, eased_then, eases_report, holders_after, holders_of, latest_again, none_report, reports_after, touch_calm}
use Rattle.live_input.proofs.limit.Limited.touch_down.Goals as goal

pub returns-then-not-has_device-clause-after : goal.returns-then-not-has_device-clause-after
returns-then-not-has_device-clause-after c = λ ds es plan past h st.
    absurd (true≢false (sym (ap is_some st.there) ∙ sym c.has_device.ensures ∙ c.if-not-has_device.true))

same_plan : (f : Fingers) (a b x y u v : ℤ) → a ≡ b → x ≡ y → u ≡ v → down f a x u ≡ down f b y v
same_plan f a b x y u v p q r = λ i. down f (p i) (q i) (r i)

pub returns-in-Ok-clause-after : goal.returns-in-Ok-clause-after
returns-in-Ok-clause-after c = λ ds es plan past h st.
    let old = c.args.self.now in
    let eased = c.ease.new.self in
    let new = c.touch_down.new.self in
    let n = latest c.args.now old.live in
    let m = latest c.args.now eased.live in
    let at = latest_again c.args.now old.live eased.live c.ease.ensures.clock in
    let still = subst (λ xs. StandsAt plan past c.args.device xs) (sym c.ease.ensures.clients.devices_are) st in
    let whole =
    same_plan (fingers_of eased.live.fingers c.args.device) _ _ _ _ _ _ (to_z-of_z w32 c.args.id c.ranges.id) (to_z-of_z w32 c.args.x c.ranges.x)
    (to_z-of_z w32 c.args.y c.ranges.y) in
    inl
    (eased_then ds n es old eased _ (c.in-Ok.ensures.after ds es h)
    (λ fs there. (
      subst (λ xs. TouchGoes ds n fs plan past c.args.device (down (fingers_of xs c.args.device) c.args.id c.args.x c.args.y) c.touch_down.result eased.live new)
          c.ease.ensures.clients.fingers_are
          (subst (λ t. TouchGoes ds t fs plan past c.args.device (down (fingers_of eased.live.fingers c.args.device) c.args.id c.args.x c.args.y) c.touch_down.result eased.live new) at
          (subst (λ p. TouchGoes ds m fs plan past c.args.device p c.touch_down.result eased.live new) whole (c.touch_down.ensures.after ds fs plan past there still))),
      refl,
    )))

pub returns-in-Err-clause-after : goal.returns-in-Err-clause-after
returns-in-Err-clause-after c = λ ds es plan past h st. inr (refl, c.in-Err.ensures.after ds es h)

pub returns-then-not-has_device-clause-reserved : goal.returns-then-not-has_device-clause-reserved
returns-then-not-has_device-clause-reserved c = λ k ds es plan past h calm st idle.
    absurd (true≢false (sym (ap is_some st.there) ∙ sym c.has_device.ensures ∙ c.if-not-has_device.true))

pub returns-in-Err-clause-reserved : goal.returns-in-Err-clause-reserved
returns-in-Err-clause-reserved c = λ k ds es plan past h calm st idle. absurd (true≢false (sym (c.in-Err.ensures.calm ds es h calm).0))

pub returns-in-Ok-clause-reserved : goal.returns-in-Ok-clause-reserved
returns-in-Ok-clause-reserved c = λ k ds es plan past h calm st idle.
    let old = c.args.self.now in
    let eased = c.ease.new.self in
    let new = c.touch_down.new.self in
    let same = (c.in-Ok.ensures.calm ds es h calm).1 in
    let there = calm_is ds es (latest c.args.now old.live) old eased h same in
    let still = subst (λ xs. StandsAt plan past c.args.device xs) (sym c.ease.ensures.clients.devices_are) st in
    let idle_too = ap (λ ps. is_waiting es || any_waits ps) c.ease.ensures.clients.pending_is ∙ idle in
    let whole =
    same_plan (fingers_of eased.live.fingers c.args.device) _ _ _ _ _ _ (to_z-of_z w32 c.args.id c.ranges.id) (to_z-of_z w32 c.args.x c.ranges.x)
    (to_z-of_z w32 c.args.y c.ranges.y) in
    touch_calm k c.args.now es plan past c.args.device (λ f. down f c.args.id c.args.x c.args.y) c.touch_down.result old eased new same
    (subst (λ p. TouchGoesAtOnce k (latest c.args.now eased.live) es plan past c.args.device p c.touch_down.result eased.live new) whole
    (c.touch_down.ensures.reserved k ds es plan past there still idle_too))

pub returns-in-Ok-clause-others : goal.returns-in-Ok-clause-others
returns-in-Ok-clause-others c = λ d low other.
    c.touch_down.ensures.others d low other ∙ ap (λ xs. reader_of xs d) c.ease.ensures.clients.devices_are

pub returns-in-Err-clause-others : goal.returns-in-Err-clause-others
returns-in-Err-clause-others c = λ d low other. ap (λ xs. reader_of xs d) c.ease.ensures.clients.devices_are

pub returns-in-Ok-clause-seats : goal.returns-in-Ok-clause-seats
returns-in-Ok-clause-seats c = holders_after _ _ _ c.ease.ensures.clients c.touch_down.ensures.seats

pub returns-in-Err-clause-seats : goal.returns-in-Err-clause-seats
returns-in-Err-clause-seats c = holders_of _ _ c.ease.ensures.clients

pub returns-in-Ok-clause-named : goal.returns-in-Ok-clause-named
returns-in-Ok-clause-named c = subst (λ k. KeepsReported c.args.self.now.live.reported k) (sym c.touch_down.ensures.named) c.ease.ensures.named

pub returns-then-not-has_device-clause-reports : goal.returns-then-not-has_device-clause-reports
returns-then-not-has_device-clause-reports c = λ ds es h. none_report c.args.self.now

pub returns-in-Ok-clause-reports : goal.returns-in-Ok-clause-reports
returns-in-Ok-clause-reports c = λ ds es h.
    reports_after c.args.self.now c.ease.new.self (limited c.touch_down.new.self c.ease.new.self.wanted)
    (eases_report ds _ 5 es c.args.self.now c.ease.new.self (c.in-Ok.ensures.after ds es h).1) c.touch_down.ensures.named refl

pub returns-in-Err-clause-reports : goal.returns-in-Err-clause-reports
returns-in-Err-clause-reports c = λ ds es h. let x = c.in-Err.ensures.after ds es h in eases_report ds _ x.0 es c.args.self.now c.ease.new.self x.1
