-- The next channel is opened.
use Rattle.std.proofs.Common.{◌<◌, ◌≤◌, length, refl, sym, ap, ◌∙◌, subst, arith}
use Rattle.dispatch_history.specs.Effect.{past_of, stream}
use Rattle.dispatch_calls.specs.declared.call.Call.TheVariants.{Open}
use Rattle.dispatch_history.specs.History.{opened}
use Rattle.dispatch_history.specs.Legal.{answered}
use Rattle.dispatcher.proofs.Laws.Standing.{after_of}
use Rattle.dispatcher.proofs.Made.Following.{stands_with}
use Rattle.live_input.specs.Opening.{opening}
use Rattle.live_input.specs.Standing.{LiveIs}
use Rattle.live_input.specs.State.{LiveState}
use Rattle.live_input.proofs.Opened.{opening_new, opening_old, opening_live, opened_at}
use Rattle.live_input.proofs.Released.{release_same}
use Rattle.live_input.proofs.Stepping.{open_goes, stands_more}
use Rattle.live_input.proofs.live.Live.open_channel.Goals as goal

pub returns-in-Ok-clause-after : goal.returns-in-Ok-clause-after
returns-in-Ok-clause-after c = λ ds es h next.
    let before = subst (LiveIs ds es) (sym c.self.view_is) h in
    let count = c.opened.ensures.value es (after_of es c.self.inside.dispatcher before.stands) in
    let lt : opened (past_of es) < c.args.channel = omega (arith, c.if-opened-channel.true, count) in
    let to = next.to in
    let few : opened (past_of es) < 64 = omega (arith, lt, to) in
    let release = release_same ds es (Open c.self.inside.terms) c.self.inside.dispatcher c.apply.new.self refl refl before.release c.in-Ok.ensures.ok.goes.gone_are c.in-Ok.ensures.ok.goes.anrs_are in
    let stands = stands_with _ _ _ _ c.in-Ok.ensures.ok es before.stands in
    let there = (stands_more ds es _ before c.apply.new.self c.in-Ok.ensures.ok.goes.displays_are (Open c.self.inside.terms) c.in-Ok.field-0 stands).1 in
    let steps = c.go.ensures ds es (c.in-Ok.ensures.ok.goes.displays_are ∙ before.displays_are) (after_of _ _ there) before.steps_are in
    let x = open_goes ds es _ before c.apply.new.self c.in-Ok.ensures.ok.goes.displays_are c.self.inside.terms c.in-Ok.field-0 few stands release c.go.new.self steps in
    opening_live ds c.self.inside.terms c.args.self.now.terms c.args.channel es _ (ap (λ (s : LiveState). s.terms) c.self.view_is) lt x.1

pub returns-in-Ok-clause-sent : goal.returns-in-Ok-clause-sent
returns-in-Ok-clause-sent c = λ ds es h next.
    let before = subst (LiveIs ds es) (sym c.self.view_is) h in
    let count = c.opened.ensures.value es (after_of es c.self.inside.dispatcher before.stands) in
    let lt : opened (past_of es) < c.args.channel = omega (arith, c.if-opened-channel.true, count) in
    let to = next.to in
    let few : opened (past_of es) < 64 = omega (arith, lt, to) in
    let release = release_same ds es (Open c.self.inside.terms) c.self.inside.dispatcher c.apply.new.self refl refl before.release c.in-Ok.ensures.ok.goes.gone_are c.in-Ok.ensures.ok.goes.anrs_are in
    let stands = stands_with _ _ _ _ c.in-Ok.ensures.ok es before.stands in
    let there = (stands_more ds es _ before c.apply.new.self c.in-Ok.ensures.ok.goes.displays_are (Open c.self.inside.terms) c.in-Ok.field-0 stands).1 in
    let steps = c.go.ensures ds es (c.in-Ok.ensures.ok.goes.displays_are ∙ before.displays_are) (after_of _ _ there) before.steps_are in
    let x = open_goes ds es _ before c.apply.new.self c.in-Ok.ensures.ok.goes.displays_are c.self.inside.terms c.in-Ok.field-0 few stands release c.go.new.self steps in
    let more = next.next in
    let grown = x.0 in
    let fs = answered ds (Open c.self.inside.terms) es in
    let high : c.args.channel ≤ opened (past_of fs) = omega (arith, more, grown) in
    c.sent.ensures fs (after_of fs c.apply.new.self (x.1).stands) (opened_at fs c.args.channel next.from high)
    ∙ ap (λ gs. length (stream gs c.args.channel))
    (opening_new ds c.self.inside.terms c.args.channel es lt ∙ ap (λ (s : LiveState). opening ds s.terms c.args.channel es) c.self.view_is)

pub returns-in-Ok-clause-opened : goal.returns-in-Ok-clause-opened
returns-in-Ok-clause-opened c = λ ds es h next.
    let before = subst (LiveIs ds es) (sym c.self.view_is) h in
    let count = c.opened.ensures.value es (after_of es c.self.inside.dispatcher before.stands) in
    let lt : opened (past_of es) < c.args.channel = omega (arith, c.if-opened-channel.true, count) in
    let to = next.to in
    let few : opened (past_of es) < 64 = omega (arith, lt, to) in
    let release = release_same ds es (Open c.self.inside.terms) c.self.inside.dispatcher c.apply.new.self refl refl before.release c.in-Ok.ensures.ok.goes.gone_are c.in-Ok.ensures.ok.goes.anrs_are in
    let stands = stands_with _ _ _ _ c.in-Ok.ensures.ok es before.stands in
    let there = (stands_more ds es _ before c.apply.new.self c.in-Ok.ensures.ok.goes.displays_are (Open c.self.inside.terms) c.in-Ok.field-0 stands).1 in
    let steps = c.go.ensures ds es (c.in-Ok.ensures.ok.goes.displays_are ∙ before.displays_are) (after_of _ _ there) before.steps_are in
    let x = open_goes ds es _ before c.apply.new.self c.in-Ok.ensures.ok.goes.displays_are c.self.inside.terms c.in-Ok.field-0 few stands release c.go.new.self steps in
    let more = next.next in
    let grown = x.0 in
    let high : c.args.channel ≤ opened (past_of (answered ds (Open c.self.inside.terms) es)) = omega (arith, more, grown) in
    subst (λ fs. c.args.channel ≤ opened (past_of fs))
    (opening_new ds c.self.inside.terms c.args.channel es lt ∙ ap (λ (s : LiveState). opening ds s.terms c.args.channel es) c.self.view_is)
    high

pub returns-clause-opened : goal.returns-clause-opened
returns-clause-opened c = λ ds es h next.
    let before = subst (LiveIs ds es) (sym c.self.view_is) h in
    let count = c.opened.ensures.value es (after_of es c.self.inside.dispatcher before.stands) in
    let le : c.args.channel ≤ opened (past_of es) = omega (arith, c.if-opened-channel.false, count) in
    subst (λ fs. c.args.channel ≤ opened (past_of fs)) (opening_old ds c.args.self.now.terms c.args.channel es le) le

pub returns-clause-after : goal.returns-clause-after
returns-clause-after c = λ ds es h next.
    let before = subst (LiveIs ds es) (sym c.self.view_is) h in
    let count = c.opened.ensures.value es (after_of es c.self.inside.dispatcher before.stands) in
    let le : c.args.channel ≤ opened (past_of es) = omega (arith, c.if-opened-channel.false, count) in
    subst (λ fs. LiveIs ds fs c.args.self.now) (opening_old ds c.args.self.now.terms c.args.channel es le) h
