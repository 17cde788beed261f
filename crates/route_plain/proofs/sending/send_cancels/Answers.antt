use Rattle.std.proofs.Common.{ℕ, Bool, [], ◌∷◌, ap, sym, ◌∙◌}
use Rattle.std.proofs.lemmas.Result.{IfOk-equal}
use Rattle.input_types.specs.declared.motion.Motion.{Motion}
use Rattle.input_types.specs.declared.motion.MotionAction.TheVariants.{Cancel}
use Rattle.bits32.specs.Set.{is_in}
use Rattle.routing_rules.specs.Outgoing.{plain}
use Rattle.route_plain.proofs.Sayings.{none_lost, all_lost, some_lost, say_nothing, say_same}
use Rattle.route_plain.proofs.sending.send_cancels.Goals as goal

pub returns-then-lists_some : goal.returns-then-lists_some
returns-then-lists_some c =
    let b : ℕ → Bool = λ i. is_in i c.args.held.now.before in
    let l : ℕ → Bool = λ i. is_in i c.args.held.now.later in
    IfOk-equal c.send_ups.result c.send_ups.new.out.items _ _ c.send_ups.ensures
    (say_same c.args.out.now.items c.args.channel _ _
    (sym (some_lost c.args.device c.args.last.now b l (sym c.loses_some.ensures ∙ c.if-loses_some.true) (sym c.lists_some.ensures ∙ c.if-lists_some.true))))

pub returns-then-loses_some : goal.returns-then-loses_some
returns-then-loses_some c =
    let b : ℕ → Bool = λ i. is_in i c.args.held.now.before in
    let l : ℕ → Bool = λ i. is_in i c.args.held.now.later in
    IfOk-equal c.say.result c.say.new.out.items _ _ c.say.ensures
    (say_same c.args.out.now.items c.args.channel _ _
    (ap (λ (m : Motion). m ∷ []) (c.plain.ensures ∙ ap (plain c.args.device Cancel) c.listing-had.ensures)
    ∙ sym (all_lost c.args.device c.args.last.now b l (sym c.loses_some.ensures ∙ c.if-loses_some.true) (sym c.lists_some.ensures ∙ c.if-lists_some.false))))

pub returns : goal.returns
returns c =
    let b : ℕ → Bool = λ i. is_in i c.args.held.now.before in
    let l : ℕ → Bool = λ i. is_in i c.args.held.now.later in
    say_nothing c.args.out.now.items c.args.channel _ (none_lost c.args.device c.args.last.now b l (sym c.loses_some.ensures ∙ c.if-loses_some.false))
