-- A pump leaves what is kept beside the dispatcher.
use Rattle.std.proofs.Common.{◌+◌, ◌≤◌, refl, sym, ◌∙◌, subst}
use Rattle.dispatch_calls.specs.declared.call.Call.{Call}
use Rattle.dispatch_calls.specs.declared.call.Call.TheVariants.{Pump}
use Rattle.dispatch_history.specs.Legal.{answered}
use Rattle.dispatcher.proofs.Laws.Standing.{after_of}
use Rattle.dispatcher.proofs.Made.Following.{stands_with}
use Rattle.dispatcher.specs.Dispatching.{IsAfter}
use Rattle.live_input.specs.Standing.{LiveIs}
use Rattle.live_input.specs.State.{LiveState}
use Rattle.live_input.proofs.Released.{release_same}
use Rattle.live_input.proofs.Stepping.{plain_goes, stands_more}
use Rattle.live_input.proofs.live.Live.pump.Goals as goal

pub returns-in-Ok-clause-after : goal.returns-in-Ok-clause-after
returns-in-Ok-clause-after c = λ ds es h.
    let before = subst (LiveIs ds es) (sym c.self.view_is) h in
    let call : Call = Pump c.args.now in
    let goes = c.in-Ok.ensures.ok.goes in
    let there = (stands_more ds es _ before c.pump.new.self goes.displays_are call _ (stands_with _ _ _ _ c.in-Ok.ensures.ok es before.stands)).1 in
    plain_goes ds es _ before c.pump.new.self goes.displays_are call refl tt there
    (release_same ds es call c.self.inside.dispatcher c.pump.new.self refl refl before.release goes.gone_are goes.anrs_are)
    c.go_all.new.self (c.go_all.ensures ds call es (goes.displays_are ∙ before.displays_are) (after_of (answered ds call es) _ there) before.steps_are)

pub returns-in-Err-clause-pumped : goal.returns-in-Err-clause-pumped
returns-in-Err-clause-pumped c = λ es after may is enough.
    c.in-Err.ensures.pumped es (subst (λ (s : LiveState). IsAfter es s.dispatcher) (sym c.self.view_is) after) may is
    (subst (λ (s : LiveState). 1 ≤ s.dispatcher.queue.pumps) (sym c.self.view_is) enough)

pub returns-in-Ok-clause-pumps : goal.returns-in-Ok-clause-pumps
returns-in-Ok-clause-pumps c =
    subst (λ (s : LiveState). s.dispatcher.queue.pumps ≤ c.pump.new.self.queue.pumps + 1) c.self.view_is c.pump.ensures.pumps

pub returns-in-Err-clause-pumps : goal.returns-in-Err-clause-pumps
returns-in-Err-clause-pumps c =
    subst (λ (s : LiveState). s.dispatcher.queue.pumps ≤ c.pump.new.self.queue.pumps + 1) c.self.view_is c.pump.ensures.pumps
