use Rattle.std.proofs.Common.{sym, ap, ◌∙◌, subst}
use Rattle.dispatcher.specs.CancelSynthesis.Ends.{keys_cancelled}
use Rattle.dispatcher.specs.Anr.{Names}
use Rattle.dispatcher.proofs.Room.Oks.{on_ok}
use Rattle.dispatcher.proofs.Rounds.Refocused.{named_is}
use Rattle.dispatcher.proofs.anr.send_names.Goals as goal

pub returns-in_ok-cancel_keys_into-in-Some-clause-ok : goal.returns-in_ok-cancel_keys_into-in-Some-clause-ok
returns-in_ok-cancel_keys_into-in-Some-clause-ok c =
    let old = c.args.routing.now in
    on_ok _ _ c.name.result c.name.ensures.ok
    (subst (λ ks. Names c.args.mask ks c.args.place c.args.clock old c.name.new.routing)
    (named_is old.focus c.args.mask old.channels c.in-Some.target c.as_slice.result.now (sym c.in-Some.is ∙ c.listening.ensures.value)
    (sym c.mask_has.ensures ∙ c.if-mask_has.true)
    (c.as_slice.ensures.value ∙ c.in_ok-cancel_keys_into-in-Some.ensures.ok ∙ ap (λ i. keys_cancelled i.keys) c.input.ensures)))
