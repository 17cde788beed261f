use Rattle.std.proofs.Common.{ℕ, Bool, [], ◌∷◌, ap, sym, ◌∙◌}
use Rattle.std.proofs.lemmas.Result.{IfOk-equal}
use Rattle.input_types.specs.declared.motion.Motion.{Motion}
use Rattle.input_types.specs.declared.motion.MotionAction.TheVariants.{Move}
use Rattle.bits32.specs.Set.{is_in}
use Rattle.routing_rules.specs.Outgoing.{plain, listing, moves, or_else}
use Rattle.routing_rules.specs.Watching.{outside_of}
use Rattle.route_plain.proofs.Sayings.{lost_first, then_rest, moves_first, none_moves, say_same}
use Rattle.route_plain.proofs.sending.send_rest.Goals as goal

pub returns-then-loses_some : goal.returns-then-loses_some
returns-then-loses_some c =
    let b : ℕ → Bool = λ i. is_in i c.args.held.now.before in
    let l : ℕ → Bool = λ i. is_in i c.args.held.now.later in
    let d = c.args.motion.now.device in
    rw (c.last_of-last.ensures.value) at
    (IfOk-equal c.send_cancels.result c.send_cancels.new.out.items _ _ c.send_cancels.ensures
    (say_same c.args.out.now.items c.args.channel _ _
    (sym (lost_first d c.last_of-last.result.now b l (or_else (moves d (listing l c.args.motion.now.pointers)) (outside_of d c.args.watched))
    (sym c.loses_some.ensures ∙ c.if-loses_some.true)))))

pub returns-then-lists_some : goal.returns-then-lists_some
returns-then-lists_some c =
    let b : ℕ → Bool = λ i. is_in i c.args.held.now.before in
    let l : ℕ → Bool = λ i. is_in i c.args.held.now.later in
    let d = c.args.motion.now.device in
    let ps = c.args.motion.now.pointers in
    let ys = outside_of d c.args.watched in
    rw (c.last_of-last.ensures.value) at
    (IfOk-equal c.say.result c.say.new.out.items _ _ c.say.ensures
    (say_same c.args.out.now.items c.args.channel _ _
    (ap (λ (m : Motion). m ∷ []) (c.plain.ensures ∙ ap (plain d Move) c.listing-moving.ensures)
    ∙ sym (moves_first d ps l ys (sym c.lists_some.ensures ∙ c.if-lists_some.true))
    ∙ sym (then_rest d c.last_of-last.result.now b l (or_else (moves d (listing l ps)) ys) (sym c.loses_some.ensures ∙ c.if-loses_some.false)))))

pub returns : goal.returns
returns c =
    let b : ℕ → Bool = λ i. is_in i c.args.held.now.before in
    let l : ℕ → Bool = λ i. is_in i c.args.held.now.later in
    let d = c.args.motion.now.device in
    let ps = c.args.motion.now.pointers in
    let ys = outside_of d c.args.watched in
    rw (c.last_of-last.ensures.value) at
    (IfOk-equal c.send_outside.result c.send_outside.new.out.items _ _ c.send_outside.ensures
    (say_same c.args.out.now.items c.args.channel _ _
    (sym (none_moves d ps l ys (sym c.lists_some.ensures ∙ c.if-lists_some.false))
    ∙ sym (then_rest d c.last_of-last.result.now b l (or_else (moves d (listing l ps)) ys) (sym c.loses_some.ensures ∙ c.if-loses_some.false)))))
