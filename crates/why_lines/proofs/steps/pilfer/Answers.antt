use Rattle.std.proofs.Common.{◌≡◌, max, [], ◌∷◌, refl, sym, ap, ◌∙◌}
use Rattle.dispatch_calls.specs.declared.call.Call.TheVariants.{Pilfer}
use Rattle.dispatch_history.specs.Effect.{past_of}
use Rattle.dispatch_history.specs.History.{clock}
use Rattle.dispatch_history.specs.Reply.{pilfer_reply}
use Rattle.dispatch_history.specs.Step.{scene}
use Rattle.why_text.specs.Lines.{pilfer_words}
use Rattle.dispatcher.proofs.Made.Following.{known_so}
use Rattle.why_lines.proofs.Growing.{one_line}
use Rattle.why_lines.proofs.Outgoing.{sends}
use Rattle.why_lines.proofs.steps.pilfer.Goals as goal

pub returns-clause-known : goal.returns-clause-known
returns-clause-known c es st =
    let ds = c.args.dispatcher.now.displays in
    let now = c.args.now in
    let w = c.args.channel in
    let d = c.args.device in
    let words = pilfer_words (pilfer_reply es w d) (scene ds es) w d in
    let at : c.later-clock.result ≡ max now (clock (past_of es)) = c.later-clock.ensures ∙ ap (max now) (c.clock.ensures es st) in
    let p = known_so _ _ _ c.in_ok-take_step.ensures.ok es st in
    (sends ds (Pilfer now w d) es p.0 c.take_step.new.dispatcher c.later-clock.result (words ∷ []) c.args.lines.now.items c.add_pilfer.new.text.items p.1
    c.in_ok-take_step.ensures.ok.displays_are
    at
    refl
    (c.in_ok-add_pilfer.ensures es st ∙ one_line c.later-clock.result words c.args.lines.now.items)
    (λ a. ap (λ r. pilfer_words r (scene ds es) w d ∷ []) (sym a)))

pub returns-clause-made : goal.returns-clause-made
returns-clause-made c = c.in_ok-take_step.ensures.ok
