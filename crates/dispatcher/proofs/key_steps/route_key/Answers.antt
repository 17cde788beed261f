use Rattle.std.proofs.Common.{◌∷◌, [], refl, sym, ap, ◌∙◌}
use Rattle.input_types.specs.declared.message.Args.TheVariants.{Key as KeyOfDevice}
use Rattle.window_snapshot.specs.Mask.{mask_has}
use Rattle.focus_resolver.specs.Resolver.{target_of}
use Rattle.dispatcher.specs.KeyTables.Held.{sent_for_key, one_sent}
use Rattle.route_split.specs.declared.mark.Mark.TheVariants.{NoOp}
use Rattle.dispatcher.proofs.Room.Roomy.{modest_one, still_list, fewer}
use Rattle.dispatcher.proofs.Laws.Stepping.{other_steps}
use Rattle.dispatcher.specs.Tables.{kept}
use Rattle.dispatcher.proofs.Room.Oks.{on_ok}
use Rattle.dispatcher.proofs.Rounds.KeySteps.{keyed_nobody, keyed_one, nobody_pump, args_pump}
use Rattle.dispatcher.proofs.key_steps.route_key.Goals as goal

pub returns-in_default-clause-ok : goal.returns-in_default-clause-ok
returns-in_default-clause-ok c =
    let old = c.args.routing.now in
    nobody_pump old c.args.place c.args.clock c.args.key.now
    (λ now. keyed_nobody (target_of old.focus) old.channels.live _ (sym c.in_default.is ∙ c.listening.ensures.value))

pub returns-in-Some-sent_for_key-clause-ok : goal.returns-in-Some-sent_for_key-clause-ok
returns-in-Some-sent_for_key-clause-ok c =
    let old = c.args.routing.now in
    let t = c.in-Some.target in
    let was_sent =
    sym c.in-Some-sent_for_key.is
    ∙ c.sent_for_key.ensures
    ∙ ap (λ b. sent_for_key c.args.key.now b c.keys.result.now) (c.mask_has-gets.ensures ∙ ap (λ m. mask_has m t) c.able.ensures.value)
    ∙ ap (λ ks. sent_for_key c.args.key.now (mask_has old.channels.able t) ks) (c.keys.ensures ∙ ap (λ i. i.keys) c.input.ensures) in
    on_ok _ _ c.send_key.result c.send_key.ensures.ok
    (λ some.
    args_pump old c.send_key.new.routing c.args.place c.args.clock (KeyOfDevice c.args.key.now) NoOp (c.in-Some-sent_for_key.message ∷ []) 0 0
    refl
    refl
    some
    (λ es now w queue stands first. (other_steps old.displays es (kept queue old) stands).keys now w c.args.key.now first)
    (λ now. keyed_one (target_of old.focus) old.channels.live _ t _ (sym c.in-Some.is ∙ c.listening.ensures.value) (ap one_sent was_sent)))

pub returns-in-None-clause-ok : goal.returns-in-None-clause-ok
returns-in-None-clause-ok c =
    let old = c.args.routing.now in
    let t = c.in-Some.target in
    let was_sent =
    sym c.in-None.is
    ∙ c.sent_for_key.ensures
    ∙ ap (λ b. sent_for_key c.args.key.now b c.keys.result.now) (c.mask_has-gets.ensures ∙ ap (λ m. mask_has m t) c.able.ensures.value)
    ∙ ap (λ ks. sent_for_key c.args.key.now (mask_has old.channels.able t) ks) (c.keys.ensures ∙ ap (λ i. i.keys) c.input.ensures) in
    nobody_pump old c.args.place c.args.clock c.args.key.now
    (λ now. keyed_one (target_of old.focus) old.channels.live _ t _ (sym c.in-Some.is ∙ c.listening.ensures.value) (ap one_sent was_sent))

pub returns-in-Some-sent_for_key-clause-roomy : goal.returns-in-Some-sent_for_key-clause-roomy
returns-in-Some-sent_for_key-clause-roomy c n roomy =
    let outgoing = c.send_key.ensures.roomy n _ roomy (modest_one _ c.in-Some-sent_for_key.message c.args.routing.now.channels) in
    (outgoing.0, still_list n c.args.routing.now c.send_key.new.routing c.send_key.ensures.list outgoing.1)

pub returns-in_default-clause-roomy : goal.returns-in_default-clause-roomy
returns-in_default-clause-roomy c n roomy = (refl, fewer n c.args.routing.now.cancelled c.args.routing.now.channels roomy)

pub returns-in-None-clause-roomy : goal.returns-in-None-clause-roomy
returns-in-None-clause-roomy c n roomy = (refl, fewer n c.args.routing.now.cancelled c.args.routing.now.channels roomy)
