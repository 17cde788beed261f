-- Where nothing waits, what is kept says when a repeat is due.
use Rattle.std.proofs.Common.{None, cond, sym, ap, ◌∙◌, subst}
use Rattle.dispatch_history.specs.KeySent.{repeat_due}
use Rattle.dispatcher.specs.Dispatching.{IsAfter}
use Rattle.dispatcher.proofs.Laws.Repeating.{due_again_is}
use Rattle.dispatcher.proofs.Made.Applying.{raw}
use Rattle.dispatcher.proofs.dispatcher.Dispatcher.repeat_due.Goals as goal

pub returns-else-is_waiting : goal.returns-else-is_waiting
returns-else-is_waiting c =
    λ es s.
    let r = c.self.inside.tables.routing in
    let stands = raw es c.self.inside.tables (subst (IsAfter es) (sym c.self.view_is) s) in
    c.repeat_due.ensures ∙ due_again_is r.displays es _ stands
    ∙ sym (ap (λ b. cond b None (repeat_due es)) (sym (c.is_waiting.ensures es s) ∙ c.if-is_waiting.false))
