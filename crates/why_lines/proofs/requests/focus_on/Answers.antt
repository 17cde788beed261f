use Rattle.std.proofs.Common.{◌≡◌, max, [], ◌∷◌, sym, ap, ap₂, ◌∙◌}
use Rattle.dispatch_calls.specs.declared.call.Call.TheVariants.{FocusOn}
use Rattle.dispatch_history.specs.Effect.{past_of}
use Rattle.dispatch_history.specs.Effects.{step}
use Rattle.dispatch_history.specs.Focus.{key_target}
use Rattle.dispatch_history.specs.History.{clock}
use Rattle.why_text.specs.Lines.{request_word}
use Rattle.why_text.specs.Text.{focus_words}
use Rattle.dispatcher.proofs.Made.Following.{known_so}
use Rattle.why_lines.specs.Gone.{target_keys, target_line}
use Rattle.why_lines.specs.Growing.{with_lines}
use Rattle.why_lines.proofs.Growing.{more_lines, one_line}
use Rattle.why_lines.proofs.Making.{after_ok, made_so, written}
use Rattle.why_lines.proofs.Refocused.{refocused}
use Rattle.why_lines.proofs.Outgoing.{from_if, stands_lawful, sends_moved}
use Rattle.why_lines.proofs.requests.focus_on.Goals as goal

pub returns-clause-known : goal.returns-clause-known
returns-clause-known c es st =
    let ds = c.args.dispatcher.now.displays in
    let now = c.args.now in
    let y = c.args.display in
    let channel = c.args.channel in
    let call = FocusOn now y channel c.args.keys in
    let text = c.args.lines.now.items in
    let t = c.later-clock.result in
    let later = c.take_step.new.dispatcher in
    let at : t ≡ max now (clock (past_of es)) = c.later-clock.ensures ∙ ap (max now) (c.clock.ensures es st) in
    let p = known_so _ _ _ c.in_ok-take_step.ensures.ok es st in
    let fs = step ds call p.0 es in
    let lawful = stands_lawful ds fs later p.1 c.in_ok-take_step.ensures.ok.displays_are in
    let old = c.target-target.result in
    let gone = target_line old (target_keys es old) (key_target (past_of fs)) in
    let asked = request_word y channel in
    after_ok c.after_call-2.result c.add_changes.result _ c.after_call-2.ensures
    (from_if c.add_changes.result _ _
    (c.add_changes.ensures (past_of es) (past_of fs) (c.all_focused-before.ensures es st) (c.all_focused-after.ensures fs p.1))
    (λ grown.
    sends_moved ds call es p.0 later t (asked ∷ gone) text c.add_changes.new.text.items p.1 c.in_ok-take_step.ensures.ok.displays_are at
    (grown
    ∙ ap (with_lines t (focus_words (past_of es) (past_of fs)))
    (written c.after_call.result c.add_target.result _ _ c.after_call.ensures c.in_ok-after_call.was c.add_target.ensures
    ∙ ap₂ (λ ks o. with_lines t (target_line old ks o) c.request.new.text.items) (c.deref.ensures.value ∙ c.in_ok-held.ensures es st) (c.target.ensures fs p.1)
    ∙ ap (with_lines t gone) (c.in_ok-request.ensures ∙ one_line t asked text)
    ∙ more_lines t (asked ∷ []) gone text))
    (λ a.
    ap (λ ws. asked ∷ ws)
    (refocused ds es now y channel c.args.keys p.0 old st.lawful lawful (sym (c.target-target.ensures es st))))))

pub returns-clause-made : goal.returns-clause-made
returns-clause-made c = made_so c.after_call-2.result c.add_changes.result _ _ _ c.after_call-2.ensures c.in_ok-take_step.ensures.ok
