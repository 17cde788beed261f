-- A call that is made leaves what is kept beside the dispatcher.
use Rattle.std.proofs.Common.{◌+◌, ◌≤◌, sym, ap, ◌∙◌, subst}
use Rattle.dispatch_history.specs.Legal.{answered}
use Rattle.dispatcher.proofs.Laws.Standing.{after_of}
use Rattle.dispatcher.proofs.Made.Following.{stands_with}
use Rattle.dispatcher.specs.Dispatching.{IsAfter}
use Rattle.dispatcher.specs.Queue.{Queue}
use Rattle.dispatcher.specs.Queueing.{args_in}
use Rattle.live_input.specs.Standing.{IsOfHeld, LiveIs}
use Rattle.live_input.specs.State.{LiveState}
use Rattle.live_input.proofs.Released.{from_live, release_but}
use Rattle.live_input.proofs.Stepping.{plain_goes, stands_more}
use Rattle.live_input.proofs.live.Live.apply.Goals as goal

pub returns-in-Ok-clause-after : goal.returns-in-Ok-clause-after
returns-in-Ok-clause-after c = λ ds es h plain own.
    let before = subst (LiveIs ds es) (sym c.self.view_is) h in
    let call = c.args.call.now in
    let fs = answered ds call es in
    let there = (stands_more ds es _ before c.apply.new.self c.in-Ok.ensures.ok.goes.displays_are call c.in-Ok.reply (stands_with _ _ _ _ c.in-Ok.ensures.ok es before.stands)).1 in
    let held = subst (λ ss. IsOfHeld ss call) (sym (ap (λ (s : LiveState). s.seats) c.self.view_is)) own in
    let but = release_but ds es call c.self.inside.dispatcher c.apply.new.self before.release c.in-Ok.ensures.ok.goes.gone_are c.in-Ok.ensures.ok.goes.anrs_are in
    plain_goes ds es _ before c.release_after.new.dispatcher (c.release_after.ensures.displays ∙ c.in-Ok.ensures.ok.goes.displays_are) call plain held
    (c.release_after.ensures.stays fs there)
    (c.release_after.ensures.all fs there (from_live ds es _ call before.seats_are held) but)
    c.go.new.self (c.go.ensures ds es (c.in-Ok.ensures.ok.goes.displays_are ∙ before.displays_are) (after_of fs _ there) before.steps_are)

pub returns-in-Ok-clause-reply : goal.returns-in-Ok-clause-reply
returns-in-Ok-clause-reply c = λ ds es h.
    let before = subst (LiveIs ds es) (sym c.self.view_is) h in
    (stands_more ds es _ before c.apply.new.self c.in-Ok.ensures.ok.goes.displays_are c.args.call.now c.in-Ok.reply (stands_with _ _ _ _ c.in-Ok.ensures.ok es before.stands)).0

pub returns-in-Err-clause-calm : goal.returns-in-Err-clause-calm
returns-in-Err-clause-calm c = λ es after may calm.
    c.in-Err.ensures.calm es (subst (λ (s : LiveState). IsAfter es s.dispatcher) (sym c.self.view_is) after) may calm

pub returns-in-Err-clause-pumped : goal.returns-in-Err-clause-pumped
returns-in-Err-clause-pumped c = λ es after may is enough.
    c.in-Err.ensures.pumped es (subst (λ (s : LiveState). IsAfter es s.dispatcher) (sym c.self.view_is) after) may is
    (subst (λ (s : LiveState). 1 ≤ s.dispatcher.queue.pumps) (sym c.self.view_is) enough)

pub returns-in-Ok-clause-pumps : goal.returns-in-Ok-clause-pumps
returns-in-Ok-clause-pumps c = λ is.
    subst (λ (s : LiveState). s.dispatcher.queue.pumps ≤ c.release_after.new.dispatcher.queue.pumps + 1) c.self.view_is
    (subst (λ (q : Queue). c.self.inside.dispatcher.queue.pumps ≤ q.pumps + 1) (sym c.release_after.ensures.room) (c.apply.ensures.pumps is))

pub returns-in-Err-clause-pumps : goal.returns-in-Err-clause-pumps
returns-in-Err-clause-pumps c = λ is.
    subst (λ (s : LiveState). s.dispatcher.queue.pumps ≤ c.apply.new.self.queue.pumps + 1) c.self.view_is (c.apply.ensures.pumps is)

pub returns-in-Ok-clause-room : goal.returns-in-Ok-clause-room
returns-in-Ok-clause-room c =
    subst (λ (s : LiveState). s.dispatcher.queue.spare ≤ c.release_after.new.dispatcher.queue.spare + args_in c.args.call.now) c.self.view_is
    (subst (λ (q : Queue). c.self.inside.dispatcher.queue.spare ≤ q.spare + args_in c.args.call.now) (sym c.release_after.ensures.room)
    c.in-Ok.ensures.ok.goes.room_is)
