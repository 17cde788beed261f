use Rattle.std.proofs.Common.{◌≡◌, [], Some, unwrap_or, sym, ap, ◌∙◌, subst}
use Rattle.input_types.specs.declared.message.Args.TheVariants.{Reset as ResetOf}
use Rattle.focus_resolver.specs.Resolver.{target_of}
use Rattle.dispatcher.specs.CancelSynthesis.Ends.{keys_cancelled, of_device}
use Rattle.route_split.specs.declared.mark.Mark.TheVariants.{Empty}
use Rattle.dispatcher.proofs.Laws.Stepping.{other_steps}
use Rattle.dispatcher.specs.Tables.{kept}
use Rattle.dispatcher.specs.Roomy.{AreModest}
use Rattle.dispatcher.proofs.Room.Roomy.{modest_none, modest_cancelled, alive_of, listens_to}
use Rattle.dispatcher.proofs.Room.Oks.{on_ok}
use Rattle.dispatcher.proofs.Rounds.KeySteps.{keyed_nobody, keyed_one, args_pump}
use Rattle.dispatcher.proofs.key_steps.send_reset.Goals as goal

pub returns-in_default-clause-ok : goal.returns-in_default-clause-ok
returns-in_default-clause-ok c =
    let old = c.args.routing.now in
    on_ok _ _ c.send_still.result c.send_still.ensures.ok
    (λ some.
    args_pump old c.send_still.new.routing c.args.place c.args.clock (ResetOf c.args.device) (Empty c.args.device) [] _ _
    c.no_change-change.ensures.0
    c.no_change-change.ensures.1
    some
    (λ es now w queue stands first. (other_steps old.displays es (kept queue old) stands).resets now c.args.device w first)
    (λ now. keyed_nobody (target_of old.focus) old.channels.live _ (sym c.in_default.is ∙ c.listening.ensures.value)))

pub returns-clause-ok : goal.returns-clause-ok
returns-clause-ok c =
    let old = c.args.routing.now in
    let outgoing =
    c.as_slice.ensures.value ∙ c.in_ok-cancel_device_keys_into.ensures.ok ∙ ap (λ i. keys_cancelled (of_device c.args.device i.keys)) c.input.ensures in
    on_ok _ _ c.send_still-2.result c.send_still-2.ensures.ok
    (λ some.
    args_pump old c.send_still-2.new.routing c.args.place c.args.clock (ResetOf c.args.device) (Empty c.args.device) c.as_slice.result.now _ _
    c.no_change-change.ensures.0
    c.no_change-change.ensures.1
    some
    (λ es now w queue stands first. (other_steps old.displays es (kept queue old) stands).resets now c.args.device w first)
    (λ now. keyed_one (target_of old.focus) old.channels.live _ c.in-Some.target _ (sym c.in-Some.is ∙ c.listening.ensures.value) outgoing))

pub returns-in_default-clause-roomy : goal.returns-in_default-clause-roomy
returns-in_default-clause-roomy c n roomy = c.send_still.ensures.roomy n _ roomy (modest_none _ _)

pub returns-clause-roomy : goal.returns-clause-roomy
returns-clause-roomy c n roomy =
    let old = c.args.routing.now in
    let outgoing =
    c.as_slice.ensures.value ∙ c.in_ok-cancel_device_keys_into.ensures.ok ∙ ap (λ i. keys_cancelled (of_device c.args.device i.keys)) c.input.ensures in
    let is : target_of old.focus ≡ Some c.in-Some.target = listens_to (target_of old.focus) old.channels.live _ (sym (sym c.in-Some.is ∙ c.listening.ensures.value)) in
    c.send_still-2.ensures.roomy n _ roomy
    (subst (λ t. AreModest t c.as_slice.result.now old.channels) (sym (ap (λ o. unwrap_or o 0) is))
    (modest_cancelled _ _ c.in-Some.target c.args.device c.as_slice.result.now old.channels
    (alive_of (target_of old.focus) old.channels.live _ (sym (sym c.in-Some.is ∙ c.listening.ensures.value)))
    roomy
    outgoing))
