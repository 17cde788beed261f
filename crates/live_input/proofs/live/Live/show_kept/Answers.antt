-- The windows that are kept are shown.
use Rattle.std.proofs.Common.{refl, sym, ap, ◌∙◌, subst}
use Rattle.dispatch_calls.specs.declared.call.Call.TheVariants.{Windows}
use Rattle.dispatcher.proofs.Laws.Standing.{after_of}
use Rattle.dispatcher.proofs.Made.Following.{stands_with}
use Rattle.live_input.specs.Standing.{AreOfHeld, LiveIs}
use Rattle.live_input.specs.State.{LiveState}
use Rattle.live_input.proofs.Replaced.{shown_as}
use Rattle.live_input.proofs.Released.{release_same}
use Rattle.live_input.proofs.Stepping.{windows_go, stands_more}
use Rattle.live_input.proofs.live.Live.show_kept.Goals as goal

pub returns-in-Ok-clause-after : goal.returns-in-Ok-clause-after
returns-in-Ok-clause-after c = λ ds es was h own.
    let kept = c.self.inside.windows in
    let before = subst (λ (s : LiveState). LiveIs ds es (record s { windows = was })) (sym c.self.view_is) h in
    let held = subst (λ (s : LiveState). AreOfHeld s.windows s.seats) (sym c.self.view_is) own in
    let goes = c.in-Ok.ensures.ok.goes in
    let release = release_same ds es (Windows c.args.now kept) c.self.inside.dispatcher c.show.new.self refl refl before.release goes.gone_are goes.anrs_are in
    let stands = stands_with _ _ _ _ c.in-Ok.ensures.ok es before.stands in
    let there = (stands_more ds es _ before c.show.new.self goes.displays_are (Windows c.args.now kept) c.in-Ok.field-0 stands).1 in
    let is =
    windows_go ds es _ before c.show.new.self goes.displays_are c.args.now kept c.in-Ok.field-0 held stands release kept refl c.go_all.new.self
    (c.go_all.ensures ds (Windows c.args.now kept) es (goes.displays_are ∙ before.displays_are) (after_of _ _ there) before.steps_are) in
    shown_as ds es c.args.now kept _ _ (ap (λ (s : LiveState). s.windows) c.self.view_is) is
