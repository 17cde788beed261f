use Rattle.std.proofs.Common.{sym, ap, ◌∙◌, subst}
use Rattle.window_snapshot.specs.Mask.{mask_has}
use Rattle.dispatcher.specs.Dispatching.{StandsFor}
use Rattle.dispatch_calls.specs.declared.call.Call.TheVariants.{Receive}
use Rattle.dispatcher.proofs.Laws.Standing.{after_of}
use Rattle.dispatcher.proofs.Made.Applying.{seen, raw, may_hand}
use Rattle.dispatcher.proofs.Laws.Reading.{next_live, next_gone}
use Rattle.dispatcher.proofs.dispatcher.Dispatcher.next.Goals as goal

pub returns-then-mask_has : goal.returns-then-mask_has
returns-then-mask_has c =
    λ es s.
    let r = c.self.inside.tables.routing in
    let stands : StandsFor es (seen c.self.inside.tables) = subst (StandsFor es) (sym c.self.view_is) s in
    next_live r.displays es _ c.args.channel _
    (raw es c.self.inside.tables (after_of es (seen c.self.inside.tables) stands))
    (may_hand es c.self.inside.tables (Receive c.args.channel) stands)
    (ap (λ m. mask_has m c.args.channel) (sym c.live.ensures.value) ∙ sym c.mask_has.ensures ∙ c.if-mask_has.true)
    c.next.ensures

pub returns-else-mask_has : goal.returns-else-mask_has
returns-else-mask_has c =
    λ es s.
    let r = c.self.inside.tables.routing in
    next_gone r.displays es _ c.args.channel
    (raw es c.self.inside.tables (after_of es (seen c.self.inside.tables) (subst (StandsFor es) (sym c.self.view_is) s)))
    (ap (λ m. mask_has m c.args.channel) (sym c.live.ensures.value) ∙ sym c.mask_has.ensures ∙ c.if-mask_has.false)
