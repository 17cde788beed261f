-- What is requested is kept.
use Rattle.std.proofs.Common.{refl, sym, ap, ◌∙◌, subst, arith}
use Rattle.dispatch_calls.specs.declared.call.Call.TheVariants.{FocusOn}
use Rattle.dispatcher.proofs.Laws.Standing.{after_of}
use Rattle.dispatcher.proofs.Made.Following.{stands_with}
use Rattle.live_input.specs.Standing.{IsOfSome, LiveIs}
use Rattle.live_input.specs.State.{LiveState}
use Rattle.live_input.proofs.Released.{release_same}
use Rattle.live_input.proofs.Stepping.{request_goes_at, stands_more}
use Rattle.live_input.proofs.live.Live.request.Goals as goal

pub returns-in-Ok-clause-after : goal.returns-in-Ok-clause-after
returns-in-Ok-clause-after c = λ ds es h own.
    let before = subst (LiveIs ds es) (sym c.self.view_is) h in
    let release = release_same ds es (FocusOn c.args.now c.args.display c.args.channel c.args.keys) c.self.inside.dispatcher c.request.new.self refl refl before.release c.in-Ok.ensures.ok.goes.gone_are c.in-Ok.ensures.ok.goes.anrs_are in
    let value = c.get.ensures.value in
    let range = c.get.ensures.range in
    let stands = stands_with _ _ _ _ c.in-Ok.ensures.ok es before.stands in
    let there = (stands_more ds es _ before c.request.new.self c.in-Ok.ensures.ok.goes.displays_are (FocusOn c.args.now c.args.display c.args.channel c.args.keys) c.in-Ok.field-0 stands).1 in
    request_goes_at ds es _ before c.request.new.self c.in-Ok.ensures.ok.goes.displays_are c.args.now c.args.display c.args.channel c.args.keys c.in-Ok.field-0 c.from.result
    (c.from.ensures ∙ value) (omega (arith, value, range)) (subst (λ ss. IsOfSome c.args.channel ss) (sym (ap (λ (s : LiveState). s.seats) c.self.view_is)) own) c.keyed-self-inside.result c.keyed-self-inside.ensures stands release c.go_all.new.self
    (c.go_all.ensures ds (FocusOn c.args.now c.args.display c.args.channel c.args.keys) es (c.in-Ok.ensures.ok.goes.displays_are ∙ before.displays_are) (after_of _ _ there) before.steps_are)
