-- Args are accepted if the dispatcher accepts them.
use Rattle.std.proofs.Common.{◌+◌, ◌≤◌, refl, sym, ap, ◌∙◌, subst}
use Rattle.std.proofs.lemmas.Bool.{true≢false}
use Rattle.dispatch_calls.specs.declared.call.Call.TheVariants.{Notify}
use Rattle.dispatch_history.specs.Legal.{answered}
use Rattle.dispatcher.proofs.Made.Following.{stands_with}
use Rattle.dispatcher.specs.DispatchTables.Lawful.{Lawful}
use Rattle.dispatcher.specs.Dispatching.{IsAfter}
use Rattle.dispatcher.specs.Outcomes.{reply_of}
use Rattle.live_input.specs.Answers.{is_taken}
use Rattle.live_input.specs.Standing.{LiveIs}
use Rattle.live_input.specs.State.{LiveState}
use Rattle.live_input.specs.Steps.{StepsAre}
use Rattle.live_input.proofs.Noted.{steps_pass}
use Rattle.live_input.proofs.Released.{release_same}
use Rattle.live_input.proofs.Stepping.{plain_goes, stands_more}
use Rattle.live_input.proofs.live.Live.notify.Goals as goal

pub returns-clause-after : goal.returns-clause-after
returns-clause-after c = λ ds es h.
    let before = subst (LiveIs ds es) (sym c.self.view_is) h in
    let call = Notify c.args.now c.args.args in
    let there = (stands_more ds es _ before c.notify.new.self c.in_ok-outcome.ensures.ok.goes.displays_are call (reply_of c.in_ok-outcome.outcome) (stands_with _ _ _ _ c.in_ok-outcome.ensures.ok es before.stands)).1 in
    plain_goes ds es _ before c.notify.new.self c.in_ok-outcome.ensures.ok.goes.displays_are call refl tt there
    (release_same ds es call c.self.inside.dispatcher c.notify.new.self refl refl before.release c.in_ok-outcome.ensures.ok.goes.gone_are c.in_ok-outcome.ensures.ok.goes.anrs_are)
    c.pass.new.self
    (subst (StepsAre (answered ds call es)) (sym c.pass.ensures)
    (steps_pass ds call es _ (subst (λ ys. Lawful ys (answered ds call es)) (c.in_ok-outcome.ensures.ok.goes.displays_are ∙ before.displays_are) there.lawful) (λ k. refl) (λ t k seq e. absurd cc) before.steps_are))

pub returns-clause-taken : goal.returns-clause-taken
returns-clause-taken c = λ ds es h.
    let before = subst (LiveIs ds es) (sym c.self.view_is) h in
    let same = (stands_more ds es _ before c.notify.new.self c.in_ok-outcome.ensures.ok.goes.displays_are (Notify c.args.now c.args.args) (reply_of c.in_ok-outcome.outcome) (stands_with _ _ _ _ c.in_ok-outcome.ensures.ok es before.stands)).0 in
    c.is_taken.ensures ∙ ap is_taken same

pub returns-in_err-outcome-clause-reserved : goal.returns-in_err-outcome-clause-reserved
returns-in_err-outcome-clause-reserved c = λ es after may one enough.
    absurd
    (true≢false
    (sym
    (c.in_err-outcome.ensures.reserved es (subst (λ (s : LiveState). IsAfter es s.dispatcher) (sym c.self.view_is) after) may one
    (subst (λ (s : LiveState). 1 ≤ s.dispatcher.queue.spare) (sym c.self.view_is) enough))))

pub returns-clause-pumps : goal.returns-clause-pumps
returns-clause-pumps c = c.notify.ensures.pumps ∙ ap (λ (s : LiveState). s.dispatcher.queue.pumps) c.self.view_is

pub returns-clause-room : goal.returns-clause-room
returns-clause-room c =
    subst (λ (s : LiveState). s.dispatcher.queue.spare ≤ c.notify.new.self.queue.spare + 1) c.self.view_is c.in_ok-outcome.ensures.ok.goes.room_is
