use Rattle.std.proofs.Common.{option_map, refl, sym, ap, ◌∙◌}
use Rattle.dispatch_history.specs.Reply.{is_due}
use Rattle.std.proofs.lemmas.Bool.{true≢false}
use Rattle.dispatcher.proofs.Room.Oks.{on_err}
use Rattle.dispatcher.proofs.Room.Roomy.{modest_one, still_list, fewer}
use Rattle.dispatcher.proofs.Rounds.KeySteps.{idle_pump, repeat_pump, due_next}
use Rattle.dispatcher.specs.DispatchTables.Delivery.{repeats_kept}
use Rattle.dispatcher.specs.Staying.{delivery_of}
use Rattle.dispatcher.proofs.key_steps.repeat.Goals as goal

pub returns-then-not-is_due-clause-ok : goal.returns-then-not-is_due-clause-ok
returns-then-not-is_due-clause-ok c =
    idle_pump c.args.place c.args.clock c.args.routing.now
    (ap (λ o. is_due o c.args.clock) (sym c.repeat_due.ensures) ∙ sym c.is_due.ensures ∙ c.if-not-is_due.true)

pub returns-in_default-clause-ok : goal.returns-in_default-clause-ok
returns-in_default-clause-ok c =
    let due = ap (λ o. is_due o c.args.clock) (sym c.repeat_due.ensures) ∙ sym c.is_due.ensures ∙ c.if-not-is_due.false in
    absurd
    (due_next (repeats_kept (delivery_of c.args.routing.now.channels)) c.args.routing.now.repeat c.args.clock due (sym c.next.ensures ∙ ap (λ o. option_map (λ n. (n.0, n.1)) o) c.in_default.is))

pub returns-clause-ok : goal.returns-clause-ok
returns-clause-ok c =
    let due = ap (λ o. is_due o c.args.clock) (sym c.repeat_due.ensures) ∙ sym c.is_due.ensures ∙ c.if-not-is_due.false in
    repeat_pump c.args.routing.now c.send_key.new.routing c.args.place c.args.clock (c.in-Some.field-0-0, c.in-Some.message) 0 0
    refl
    refl
    due
    (sym c.next.ensures ∙ ap (λ o. option_map (λ n. (n.0, n.1)) o) c.in-Some.is)
    c.in_ok-send_key.ensures.ok

pub returns-in_err-send_key-clause-roomy : goal.returns-in_err-send_key-clause-roomy
returns-in_err-send_key-clause-roomy c n roomy =
    absurd (true≢false (sym (c.in_err-send_key.ensures.roomy n _ roomy (modest_one _ c.in-Some.message c.args.routing.now.channels)).0))

pub returns-clause-roomy : goal.returns-clause-roomy
returns-clause-roomy c n roomy =
    let outgoing = c.in_ok-send_key.ensures.roomy n _ roomy (modest_one _ c.in-Some.message c.args.routing.now.channels) in
    (refl, still_list n c.args.routing.now c.send_key.new.routing c.in_ok-send_key.ensures.list outgoing.1)

pub returns-then-not-is_due-clause-roomy : goal.returns-then-not-is_due-clause-roomy
returns-then-not-is_due-clause-roomy c n roomy = (refl, fewer n c.args.routing.now.cancelled c.args.routing.now.channels roomy)

pub returns-in_default-clause-roomy : goal.returns-in_default-clause-roomy
returns-in_default-clause-roomy c n roomy = (refl, fewer n c.args.routing.now.cancelled c.args.routing.now.channels roomy)

pub returns-in_err-send_key-clause-calm : goal.returns-in_err-send_key-clause-calm
returns-in_err-send_key-clause-calm c =
    on_err _ c.from_residual.result (ap (λ o. is_due o c.args.clock) (sym c.repeat_due.ensures) ∙ sym c.is_due.ensures ∙ c.if-not-is_due.false)
