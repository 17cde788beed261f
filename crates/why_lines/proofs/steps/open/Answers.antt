use Rattle.std.proofs.Common.{◌≡◌, max, [], refl, ap, ap₂, ◌∙◌}
use Rattle.dispatch_calls.specs.declared.call.Call.TheVariants.{Open}
use Rattle.dispatch_history.specs.Effect.{past_of}
use Rattle.dispatch_history.specs.Effects.{step}
use Rattle.dispatch_history.specs.History.{clock}
use Rattle.why_text.specs.Text.{focus_words}
use Rattle.dispatcher.proofs.Made.Following.{known_so}
use Rattle.why_lines.specs.Growing.{with_lines}
use Rattle.why_lines.proofs.Growing.{no_line}
use Rattle.why_lines.proofs.Making.{after_ok, made_so}
use Rattle.why_lines.proofs.Outgoing.{from_if, sends_moved}
use Rattle.why_lines.proofs.steps.open.Goals as goal

pub returns-clause-known : goal.returns-clause-known
returns-clause-known c es st =
    let ds = c.args.dispatcher.now.displays in
    let call = Open c.args.terms in
    let text = c.args.lines.now.items in
    let t = c.later-clock.result in
    let later = c.take_step.new.dispatcher in
    let at : t ≡ max 0 (clock (past_of es)) = c.later-clock.ensures ∙ ap₂ max c.zero.ensures (c.clock.ensures es st) in
    let p = known_so _ _ _ c.in_ok-take_step.ensures.ok es st in
    let fs = step ds call p.0 es in
    after_ok c.after_call.result c.add_changes.result _ c.after_call.ensures
    (from_if c.add_changes.result _ _
    (c.add_changes.ensures (past_of es) (past_of fs) (c.all_focused-before.ensures es st) (c.all_focused-after.ensures fs p.1))
    (λ grown.
    sends_moved ds call es p.0 later t [] text c.add_changes.new.text.items p.1 c.in_ok-take_step.ensures.ok.displays_are at
    (grown ∙ ap (with_lines t (focus_words (past_of es) (past_of fs))) (no_line t text))
    (λ a. refl)))

pub returns-clause-made : goal.returns-clause-made
returns-clause-made c = made_so c.after_call.result c.add_changes.result _ _ _ c.after_call.ensures c.in_ok-take_step.ensures.ok
