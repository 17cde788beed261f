-- What is released is that of the call.
use Rattle.std.proofs.Common.{◌≡◌, Some, sym, ◌∙◌, subst}
use Rattle.dispatcher.proofs.Laws.Standing.{after_of}
use Rattle.live_input.specs.Releases.{IsLiveChannel, receives_from}
use Rattle.live_input.proofs.Released.{release_all, anrs_go, no_tick, received_go}
use Rattle.live_input.proofs.releasing.release_after.Goals as goal

pub returns-in-Some-clause-all : goal.returns-in-Some-clause-all
returns-in-Some-clause-all c = λ es stands from but.
    let is_from : receives_from c.args.call.now ≡ Some c.in-Some.channel = sym c.receives_from.ensures ∙ c.in-Some.is in
    let lives = subst (λ o. IsLiveChannel o es) is_from from in
    received_go _ _ c.in-Some.channel es c.args.dispatcher.now c.release.new.self is_from (no_tick c.args.call.now c.in-Some.channel is_from)
    (c.release.ensures.live es stands lives.1 lives.2) c.release.ensures.others c.release.ensures.anrs but

pub returns-then-is_tick-clause-all : goal.returns-then-is_tick-clause-all
returns-then-is_tick-clause-all c = λ es stands from but.
    anrs_go _ _ es c.args.dispatcher.now c.release_anrs.new.self (sym c.receives_from.ensures ∙ c.in_default.is) c.release_anrs.ensures.messages
    (c.release_anrs.ensures.gone es (after_of es c.args.dispatcher.now stands)) but

pub returns-else-is_tick-clause-all : goal.returns-else-is_tick-clause-all
returns-else-is_tick-clause-all c = λ es stands from but.
    release_all _ _ es c.args.dispatcher.now (sym c.receives_from.ensures ∙ c.in_default.is) (sym c.is_tick.ensures ∙ c.if-is_tick.false) but
