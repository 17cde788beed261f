use Rattle.std.proofs.Common.{ℕ, Bool, ◌≡◌, [], ◌∷◌, List, sym, ap₂, ◌∙◌, subst}
use mathlib.Core.Path.{fun_ext}
use Rattle.bits32.specs.Set.{is_in}
use Rattle.input_types.specs.declared.motion.Motion.{Motion}
use Rattle.input_types.specs.declared.motion.MotionAction.TheVariants.{Move}
use Rattle.routing_rules.specs.Outgoing.{listing, plain, moves}
use Rattle.route_split.specs.Tables.{holds_at}
use Rattle.dispatcher.specs.DispatchRound.Bodies.{told}
use Rattle.dispatcher.specs.DispatchRound.Saying.{SendsOne}
use Rattle.dispatcher.proofs.DispatchRound.Saying.{sends_none}
use Rattle.dispatcher.proofs.DispatchRound.Telling.{sends_moves}
use Rattle.dispatcher.proofs.DispatchRound.MoveLaws.{some_moves, none_moves}
use Rattle.dispatcher.proofs.dispatch_round.steady.move_held.Goals as goal

pub returns-then-has_some : goal.returns-then-has_some
returns-then-has_some c =
    let m = c.args.motion.now in
    let ps = c.args.pointers.now in
    let held : ℕ → Bool = λ i. is_in i c.held-held.result in
    let same : held ≡ holds_at c.args.touches.now c.args.to.now.window m.device = fun_ext c.held-held.ensures in
    let says : plain m.device Move (listing held ps) ∷ [] ≡ moves m.device (listing (holds_at c.args.touches.now c.args.to.now.window m.device) m.pointers) =
    sym (some_moves held m.device ps (sym c.has_some.ensures ∙ c.if-has_some.true)) ∙ ap₂ (λ f xs. moves m.device (listing f xs)) same c.requires.pointers in
    subst (λ (ms : List Motion). SendsOne c.args.to.now (told c.args.to.now.covers.now c.args.to.now.window ms) c.args.channels.now c.send_moves.new.self) says
    (sends_moves c.args.to.now m.device c.flags.result (listing held ps) _ _ c.flags.ensures c.send_moves.ensures c.requires.room.opened)

pub returns-else-has_some : goal.returns-else-has_some
returns-else-has_some c =
    let m = c.args.motion.now in
    let ps = c.args.pointers.now in
    let held : ℕ → Bool = λ i. is_in i c.held-held.result in
    let same : held ≡ holds_at c.args.touches.now c.args.to.now.window m.device = fun_ext c.held-held.ensures in
    subst (λ (ms : List Motion). SendsOne c.args.to.now (told c.args.to.now.covers.now c.args.to.now.window ms) c.args.channels.now c.args.channels.now)
    (sym (none_moves held m.device ps (sym c.has_some.ensures ∙ c.if-has_some.false)) ∙ ap₂ (λ f xs. moves m.device (listing f xs)) same c.requires.pointers)
    (sends_none c.args.to.now c.args.channels.now)
