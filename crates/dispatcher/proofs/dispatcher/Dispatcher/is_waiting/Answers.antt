use Rattle.std.proofs.Common.{sym, ap, ◌∙◌, subst}
use Rattle.dispatcher.specs.Access.{any_waits}
use Rattle.dispatcher.specs.Dispatching.{IsAfter}
use Rattle.dispatcher.proofs.Laws.Reading.{waits, some_copied}
use Rattle.dispatcher.proofs.dispatcher.Dispatcher.is_waiting.Goals as goal

pub returns : goal.returns
returns c =
    λ es s.
    let stands = subst (IsAfter es) (sym c.self.view_is) s in
    waits c.self.inside.tables.queueing.waiting _ c.is_some.result c.first.ensures (c.is_some.ensures ∙ some_copied c.first.result)
    ∙ ap any_waits stands.knows.queue.waiting_is
