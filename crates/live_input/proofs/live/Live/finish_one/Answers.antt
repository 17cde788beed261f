-- A finish leaves what is kept beside the dispatcher.
use Rattle.std.proofs.Common.{refl, sym, ap, ◌∙◌, subst}
use Rattle.dispatch_calls.specs.declared.call.Call.{Call}
use Rattle.dispatch_calls.specs.declared.call.Call.TheVariants.{Finish}
use Rattle.dispatch_history.specs.Legal.{answered}
use Rattle.dispatcher.proofs.Laws.Standing.{after_of}
use Rattle.dispatcher.proofs.Made.Following.{stands_with}
use Rattle.dispatcher.specs.Dispatching.{IsAfter}
use Rattle.live_input.specs.Seats.{IsHeld}
use Rattle.live_input.specs.Standing.{LiveIs}
use Rattle.live_input.specs.State.{LiveState}
use Rattle.live_input.proofs.Released.{release_same}
use Rattle.live_input.proofs.Stepping.{plain_goes, stands_more}
use Rattle.live_input.proofs.live.Live.finish_one.Goals as goal

pub returns-in-Ok-clause-after : goal.returns-in-Ok-clause-after
returns-in-Ok-clause-after c = λ ds es h own.
    let before = subst (LiveIs ds es) (sym c.self.view_is) h in
    let call : Call = Finish c.args.now c.args.channel c.args.seq in
    let goes = c.in-Ok.ensures.ok.goes in
    let held = subst (λ ss. IsHeld c.args.channel ss) (sym (ap (λ (s : LiveState). s.seats) c.self.view_is)) own in
    let there = (stands_more ds es _ before c.finish.new.self goes.displays_are call _ (stands_with _ _ _ _ c.in-Ok.ensures.ok es before.stands)).1 in
    plain_goes ds es _ before c.finish.new.self goes.displays_are call refl held there
    (release_same ds es call c.self.inside.dispatcher c.finish.new.self refl refl before.release goes.gone_are goes.anrs_are)
    c.go_on.new.self
    (c.go_on.ensures ds c.args.now c.args.seq es (goes.displays_are ∙ before.displays_are) (after_of (answered ds call es) _ there) before.steps_are)

pub returns-in-Ok-clause-reply : goal.returns-in-Ok-clause-reply
returns-in-Ok-clause-reply c = λ ds es h.
    let before = subst (LiveIs ds es) (sym c.self.view_is) h in
    let call : Call = Finish c.args.now c.args.channel c.args.seq in
    let goes = c.in-Ok.ensures.ok.goes in
    (stands_more ds es _ before c.finish.new.self goes.displays_are call _ (stands_with _ _ _ _ c.in-Ok.ensures.ok es before.stands)).0

pub returns-in-Err-clause-calm : goal.returns-in-Err-clause-calm
returns-in-Err-clause-calm c = λ es after may calm.
    c.in-Err.ensures.calm es (subst (λ (s : LiveState). IsAfter es s.dispatcher) (sym c.self.view_is) after) may calm
