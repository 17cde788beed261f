use Rattle.std.proofs.Common.{sym, ap, ◌∙◌, subst}
use Rattle.window_snapshot.specs.Mask.{mask_has}
use Rattle.dispatcher.specs.Dispatching.{IsAfter}
use Rattle.dispatcher.proofs.dispatcher.Dispatcher.able.Goals as goal

pub returns : goal.returns
returns c =
    λ es s k.
    let stands = subst (IsAfter es) (sym c.self.view_is) s in
    ap (λ n. mask_has n k) c.able.ensures.value ∙ ap (λ f. f k) stands.knows.delivery.able_is
