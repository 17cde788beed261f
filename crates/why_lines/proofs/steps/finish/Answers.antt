use Rattle.std.proofs.Common.{◌≡◌, ◌&&◌, not, max, refl, sym, ap, ap₂, ◌∙◌}
use Rattle.window_snapshot.specs.Mask.{mask_has}
use Rattle.dispatch_calls.specs.declared.call.Call.TheVariants.{Finish}
use Rattle.dispatch_history.specs.Effect.{past_of}
use Rattle.dispatch_history.specs.Effects.{step}
use Rattle.dispatch_history.specs.History.{clock}
use Rattle.dispatcher.proofs.Made.Following.{known_so}
use Rattle.why_lines.specs.Owners.{again_words}
use Rattle.why_lines.proofs.Finishing.{finish_law}
use Rattle.why_lines.proofs.Making.{after_ok, made_so}
use Rattle.why_lines.proofs.Outgoing.{from_if, stands_lawful, sends}
use Rattle.why_lines.proofs.steps.finish.Goals as goal

pub returns-clause-known : goal.returns-clause-known
returns-clause-known c es st =
    let ds = c.args.dispatcher.now.displays in
    let now = c.args.now in
    let w = c.args.channel in
    let seq = c.args.seq in
    let call = Finish now w seq in
    let later = c.finish.new.self in
    let at : c.later-clock.result ≡ max now (clock (past_of es)) = c.later-clock.ensures ∙ ap (max now) (c.clock.ensures es st) in
    let p = known_so _ _ _ c.in_ok-finish.ensures.ok.goes es st in
    let lawful = stands_lawful ds (step ds call p.0 es) later p.1 c.in_ok-finish.ensures.ok.goes.displays_are in
    after_ok c.after_call.result c.add_finish.result _ c.after_call.ensures
    (from_if c.add_finish.result _ _ c.add_finish.ensures
    (λ grown.
    sends ds call es p.0 later c.later-clock.result
    (again_words (not (mask_has c.able-before.result w) && mask_has c.able-after.result w) w)
    c.args.lines.now.items
    c.add_finish.new.text.items
    p.1
    c.in_ok-finish.ensures.ok.goes.displays_are
    at
    refl
    grown
    (λ a.
    ap (λ b. again_words b w)
    (ap₂ (λ x y. not x && y) (c.able-before.ensures es st w) (c.able-after.ensures (step ds call p.0 es) p.1 w))
    ∙ sym (finish_law ds es now w seq p.0 lawful))))

pub returns-clause-made : goal.returns-clause-made
returns-clause-made c = made_so c.after_call.result c.add_finish.result _ _ _ c.after_call.ensures c.in_ok-finish.ensures.ok.goes
