-- What was requested for the channel is requested for none, display by display.
use Rattle.std.proofs.Common.{subst}
use Rattle.live_input.specs.Standing.{LiveIs}
use Rattle.live_input.proofs.Opened.{forgotten_is}
use Rattle.live_input.proofs.Results.{on_ok, either}
use Rattle.live_input.proofs.Taken.{taken_none, taken_request, taken_same}
use Rattle.live_input.proofs.live.Live.forget.Goals as goal

pub returns-clause-after : goal.returns-clause-after
returns-clause-after c = λ ds es h.
    let e1 = c.in_ok-forget_on.ensures.after ds es h in
    let e2 = c.in_ok-forget_on-2.ensures.after ds _ e1 in
    let e3 = c.in_ok-forget_on-3.ensures.after ds _ e2 in
    on_ok c.forget_on-4.result _ _ (c.forget_on-4.ensures.after ds _ e3)
    (λ x.
    subst (λ fs. LiveIs ds fs c.forget_on-4.new.self)
    (forgotten_is ds c.args.now c.args.channel es c.display.result c.display-2.result c.display-3.result c.display-4.result c.display.ensures
    c.display-2.ensures c.display-3.ensures c.display-4.ensures)
    x)

pub returns-clause-part : goal.returns-clause-part
returns-clause-part c = λ ds es h.
    let now = c.args.now in let k = c.args.channel in
    let r0 = taken_none ds now k es _ h in
    let r1 = taken_request ds now k es _ _ r0 c.display.result (c.in_ok-forget_on.ensures.after ds es h) in
    let r2 = taken_request ds now k es _ _ r1 c.display-2.result (c.in_ok-forget_on-2.ensures.after ds _ r1.is) in
    let r3 = taken_request ds now k es _ _ r2 c.display-3.result (c.in_ok-forget_on-3.ensures.after ds _ r2.is) in
    either c.forget_on-4.result _ _ _ (c.forget_on-4.ensures.after ds _ r3.is) c.forget_on-4.ensures.err
    (λ x. taken_request ds now k es _ _ r3 c.display-4.result x)
    (λ e. taken_same ds now k es _ _ e r3)

pub returns-in_err-forget_on-clause-part : goal.returns-in_err-forget_on-clause-part
returns-in_err-forget_on-clause-part c = λ ds es h.
    taken_same ds c.args.now c.args.channel es _ _ c.in_err-forget_on.ensures.err (taken_none ds c.args.now c.args.channel es _ h)

pub returns-in_err-forget_on-2-clause-part : goal.returns-in_err-forget_on-2-clause-part
returns-in_err-forget_on-2-clause-part c = λ ds es h.
    let now = c.args.now in let k = c.args.channel in
    let r1 = taken_request ds now k es _ _ (taken_none ds now k es _ h) c.display.result (c.in_ok-forget_on.ensures.after ds es h) in
    taken_same ds now k es _ _ c.in_err-forget_on-2.ensures.err r1

pub returns-in_err-forget_on-3-clause-part : goal.returns-in_err-forget_on-3-clause-part
returns-in_err-forget_on-3-clause-part c = λ ds es h.
    let now = c.args.now in let k = c.args.channel in
    let r1 = taken_request ds now k es _ _ (taken_none ds now k es _ h) c.display.result (c.in_ok-forget_on.ensures.after ds es h) in
    let r2 = taken_request ds now k es _ _ r1 c.display-2.result (c.in_ok-forget_on-2.ensures.after ds _ r1.is) in
    taken_same ds now k es _ _ c.in_err-forget_on-3.ensures.err r2
