use Rattle.std.proofs.Common.{ℕ, Bool, true, false, ◌≡◌, List, sym, ap₂, ◌∙◌, subst}
use mathlib.Core.Path.{fun_ext}
use Rattle.bits32.specs.Set.{is_in}
use Rattle.input_types.specs.declared.message.Body.TheVariants.{Motion as MotionBody}
use Rattle.input_types.specs.declared.pointer.Pointer.{Pointer}
use Rattle.routing_rules.specs.Outgoing.{listing}
use Rattle.route_split.specs.Tables.{holds_at}
use Rattle.dispatcher.specs.InputChannel.Moves.{move_of}
use Rattle.dispatcher.specs.DispatchChannels.Changes.{SendsPast}
use Rattle.dispatcher.proofs.DispatchRound.Passing.{held_some, passes_none, passes_some}
use Rattle.dispatcher.proofs.dispatch_round.past.move_past.Goals as goal

pub returns-then-not-has_some-clause-passes : goal.returns-then-not-has_some-clause-passes
returns-then-not-has_some-clause-passes c =
    passes_none c.args.touches.now c.args.motion.now c.args.window c.args.channels.now
    (held_some c.args.touches.now c.args.motion.now c.args.window c.held-held.result c.args.pointers.now false c.held-held.ensures c.requires.pointers
    (sym c.if-not-has_some.true ∙ c.has_some.ensures))
    c.requires.none

pub returns-clause-sent : goal.returns-clause-sent
returns-clause-sent c =
    sym
    (held_some c.args.touches.now c.args.motion.now c.args.window c.held-held.result c.args.pointers.now true c.held-held.ensures c.requires.pointers
    (sym c.if-not-has_some.false ∙ c.has_some.ensures))

pub returns-clause-passes : goal.returns-clause-passes
returns-clause-passes c =
    let m = c.args.motion.now in
    let same : (let f : ℕ → Bool = λ i. is_in i c.held-held.result in f) ≡ holds_at c.args.touches.now c.args.window m.device = fun_ext c.held-held.ensures in
    passes_some c.args.touches.now m c.args.window c.args.channels.now c.send_moves_past.new.self
    (held_some c.args.touches.now m c.args.window c.held-held.result c.args.pointers.now true c.held-held.ensures c.requires.pointers
    (sym c.if-not-has_some.false ∙ c.has_some.ensures))
    c.requires.room.opened
    (λ flags o clock.
    subst (λ (ps : List Pointer). SendsPast c.args.window (MotionBody (move_of m.device flags ps)) o clock c.args.channels.now c.send_moves_past.new.self)
    (ap₂ listing same c.requires.pointers) (c.send_moves_past.ensures flags o clock))
