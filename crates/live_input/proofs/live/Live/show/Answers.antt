-- The windows that are shown are kept.
use Rattle.std.proofs.Common.{refl, sym, ap, ◌∙◌, subst}
use Rattle.dispatch_calls.specs.declared.call.Call.TheVariants.{Windows}
use Rattle.dispatcher.proofs.Laws.Standing.{after_of}
use Rattle.dispatcher.proofs.Made.Following.{stands_with}
use Rattle.live_input.specs.Standing.{AreOfHeld, LiveIs}
use Rattle.live_input.specs.State.{LiveState}
use Rattle.live_input.proofs.Released.{release_same}
use Rattle.live_input.proofs.Stepping.{windows_go, stands_more}
use Rattle.live_input.proofs.live.Live.show.Goals as goal

pub returns-in-Ok-clause-after : goal.returns-in-Ok-clause-after
returns-in-Ok-clause-after c = λ ds es h own.
    let before = subst (LiveIs ds es) (sym c.self.view_is) h in
    let held = subst (λ ss. AreOfHeld c.args.snapshot ss) (sym (ap (λ (s : LiveState). s.seats) c.self.view_is)) own in
    let release = release_same ds es (Windows c.args.now c.args.snapshot) c.self.inside.dispatcher c.show.new.self refl refl before.release c.in-Ok.ensures.ok.goes.gone_are c.in-Ok.ensures.ok.goes.anrs_are in
    let stands = stands_with _ _ _ _ c.in-Ok.ensures.ok es before.stands in
    let there = (stands_more ds es _ before c.show.new.self c.in-Ok.ensures.ok.goes.displays_are (Windows c.args.now c.args.snapshot) c.in-Ok.field-0 stands).1 in
    windows_go ds es _ before c.show.new.self c.in-Ok.ensures.ok.goes.displays_are c.args.now c.args.snapshot c.in-Ok.field-0 held stands release
    c.args.snapshot refl c.go_all.new.self
    (c.go_all.ensures ds (Windows c.args.now c.args.snapshot) es (c.in-Ok.ensures.ok.goes.displays_are ∙ before.displays_are) (after_of _ _ there) before.steps_are)
