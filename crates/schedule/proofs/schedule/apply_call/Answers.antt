-- A call whose causes are written, and one whose causes are not.
use Rattle.std.proofs.Common.{sym, subst}
use Rattle.dispatcher.proofs.Made.Following.{known_so}
use Rattle.schedule.specs.More.{ComesTo}
use Rattle.schedule.proofs.Caused.{applies_alone, applies_sent}
use Rattle.schedule.proofs.More.{anrs_stay, displays_stay, gone_stays, made_more, one_more}
use Rattle.schedule.proofs.schedule.apply_call.Goals as goal

pub returns-in_ok-apply-in-Some-clause-after : goal.returns-in_ok-apply-in-Some-clause-after
returns-in_ok-apply-in-Some-clause-after c = λ es stands.
    rw c.in-Some.is (applies_sent c.args.call.now es _ _ _ _ (c.in_ok-apply-in-Some.ensures.known es stands))

pub returns-in_ok-apply-in-Some-clause-more : goal.returns-in_ok-apply-in-Some-clause-more
returns-in_ok-apply-in-Some-clause-more c = λ es k. made_more c.apply.result es _ _ c.args.call.now c.apply.ensures.made k

pub returns-in_err-apply-in-Some-clause-more : goal.returns-in_err-apply-in-Some-clause-more
returns-in_err-apply-in-Some-clause-more c = λ es k. made_more c.apply.result es _ _ c.args.call.now c.apply.ensures.made k

pub returns-in_ok-apply-in-Some-clause-displays : goal.returns-in_ok-apply-in-Some-clause-displays
returns-in_ok-apply-in-Some-clause-displays c = displays_stay c.apply.result c.args.call.now c.args.dispatcher.now c.apply.new.dispatcher c.apply.ensures.made

pub returns-in_ok-apply-in-Some-clause-gone : goal.returns-in_ok-apply-in-Some-clause-gone
returns-in_ok-apply-in-Some-clause-gone c = gone_stays c.apply.result c.args.call.now c.args.dispatcher.now c.apply.new.dispatcher c.apply.ensures.made

pub returns-in_ok-apply-in-Some-clause-anrs : goal.returns-in_ok-apply-in-Some-clause-anrs
returns-in_ok-apply-in-Some-clause-anrs c = anrs_stay c.apply.result c.args.call.now c.args.dispatcher.now c.apply.new.dispatcher c.apply.ensures.made

pub returns-in_err-apply-in-Some-clause-displays : goal.returns-in_err-apply-in-Some-clause-displays
returns-in_err-apply-in-Some-clause-displays c = displays_stay c.apply.result c.args.call.now c.args.dispatcher.now c.apply.new.dispatcher c.apply.ensures.made

pub returns-in_err-apply-in-Some-clause-gone : goal.returns-in_err-apply-in-Some-clause-gone
returns-in_err-apply-in-Some-clause-gone c = gone_stays c.apply.result c.args.call.now c.args.dispatcher.now c.apply.new.dispatcher c.apply.ensures.made

pub returns-in_err-apply-in-Some-clause-anrs : goal.returns-in_err-apply-in-Some-clause-anrs
returns-in_err-apply-in-Some-clause-anrs c = anrs_stay c.apply.result c.args.call.now c.args.dispatcher.now c.apply.new.dispatcher c.apply.ensures.made

pub returns-in_ok-take_step-in-None-clause-after : goal.returns-in_ok-take_step-in-None-clause-after
returns-in_ok-take_step-in-None-clause-after c = λ es stands.
    rw c.in-None.is (applies_alone c.args.call.now es _ _ (known_so _ _ _ c.in_ok-take_step-in-None.ensures.ok es stands))

pub returns-in_ok-take_step-in-None-clause-more : goal.returns-in_ok-take_step-in-None-clause-more
returns-in_ok-take_step-in-None-clause-more c = λ es k.
    one_more es _ _ c.args.call.now c.in_ok-take_step-in-None.ensures.ok.displays_are (known_so _ _ _ c.in_ok-take_step-in-None.ensures.ok) k

pub returns-in_err-take_step-in-None-clause-more : goal.returns-in_err-take_step-in-None-clause-more
returns-in_err-take_step-in-None-clause-more c = λ es k. subst (ComesTo es) (sym c.in_err-take_step-in-None.ensures.err) k
