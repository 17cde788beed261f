use Rattle.std.proofs.Common.{◌≡◌, max, [], ◌∷◌, sym, ap, ◌∙◌}
use Rattle.dispatch_calls.specs.declared.call.Call.TheVariants.{Remove}
use Rattle.dispatch_history.specs.Effect.{past_of}
use Rattle.dispatch_history.specs.Effects.{effect_of, step}
use Rattle.dispatch_history.specs.History.{clock}
use Rattle.dispatch_history.specs.Queue.{args_of, inbound}
use Rattle.dispatch_history.specs.Reply.{reply_to}
use Rattle.why_text.specs.Lines.{removed_words}
use Rattle.why_text.specs.Text.{focus_words}
use Rattle.dispatcher.proofs.Made.Following.{known_so}
use Rattle.why_lines.specs.Growing.{with_lines}
use Rattle.why_lines.proofs.AllLost.{remove_loses}
use Rattle.why_lines.proofs.Growing.{one_line}
use Rattle.why_lines.proofs.Making.{after_ok, made_so}
use Rattle.why_lines.proofs.Outgoing.{from_if, stands_lawful, sends_moved}
use Rattle.why_lines.proofs.steps.remove.Goals as goal

pub returns-clause-known : goal.returns-clause-known
returns-clause-known c es st =
    let ds = c.args.dispatcher.now.displays in
    let now = c.args.now in
    let w = c.args.channel in
    let call = Remove now w in
    let text = c.args.lines.now.items in
    let t = c.later-clock.result in
    let later = c.remove.new.self in
    let at : t ≡ max now (clock (past_of es)) = c.later-clock.ensures ∙ ap (max now) (c.clock.ensures es st) in
    let p = known_so _ _ _ c.in_ok-remove.ensures.ok.goes es st in
    let fs = step ds call p.0 es in
    let x = effect_of ds call p.0 (args_of call p.0 (inbound (past_of es))) es in
    let lawful = stands_lawful ds fs later p.1 c.in_ok-remove.ensures.ok.goes.displays_are in
    let words = removed_words (reply_to es call) x es w in
    after_ok c.after_call.result c.add_changes.result _ c.after_call.ensures
    (from_if c.add_changes.result _ _
    (c.add_changes.ensures (past_of es) (past_of fs) (c.all_focused-before.ensures es st) (c.all_focused-after.ensures fs p.1))
    (λ grown.
    sends_moved ds call es p.0 later t (words ∷ []) text c.add_changes.new.text.items p.1 c.in_ok-remove.ensures.ok.goes.displays_are at
    (grown
    ∙ ap (with_lines t (focus_words (past_of es) (past_of fs)))
    (c.in_ok-add_removal.ensures es x st (remove_loses ds es now w p.0 lawful) ∙ one_line t words text))
    (λ a. ap (λ r. removed_words r x es w ∷ []) (sym a))))

pub returns-clause-made : goal.returns-clause-made
returns-clause-made c = made_so c.after_call.result c.add_changes.result _ _ _ c.after_call.ensures c.in_ok-remove.ensures.ok.goes
