use Rattle.std.proofs.Common.{◌≡◌, ◌+◌, max, cond, [], ◌∷◌, ◌++◌, sym, ap, ◌∙◌, refl, subst}
use Rattle.focus_resolver.specs.Resolver.{is_at}
use Rattle.dispatch_calls.specs.declared.call.Call.TheVariants.{Windows}
use Rattle.dispatch_history.specs.Effect.{past_of}
use Rattle.dispatch_history.specs.Effects.{effect_of, step}
use Rattle.dispatch_history.specs.History.{clock}
use Rattle.dispatch_history.specs.Queue.{args_of, inbound}
use Rattle.dispatcher.specs.Answered.{StepsOn}
use Rattle.dispatcher.specs.Dispatching.{IsAfter}
use Rattle.route_split.specs.Tables.{holds_at}
use Rattle.why_text.specs.Lines.{gone_words, snapshot_words}
use Rattle.why_text.specs.Text.{focus_words, line}
use Rattle.dispatcher.proofs.Made.Following.{known_so}
use Rattle.why_lines.specs.Growing.{with_lines}
use Rattle.why_lines.proofs.Growing.{more_lines, one_line}
use Rattle.why_lines.proofs.Held.{keys_there}
use Rattle.why_lines.proofs.Making.{after_ok, made_so, written}
use Rattle.why_lines.proofs.Outgoing.{from_if, sends_moved}
use Rattle.why_lines.proofs.snapshots.windows.Goals as goal

pub returns-clause-known : goal.returns-clause-known
returns-clause-known c es st =
    let ds = c.args.dispatcher.now.displays in
    let now = c.args.now in
    let ws = c.args.snapshot.now in
    let call = Windows now ws in
    let text = c.args.lines.now.items in
    let t = c.later-clock.result in
    let later = c.take_step.new.dispatcher in
    let at : t ≡ max now (clock (past_of es)) = c.later-clock.ensures ∙ ap (max now) (c.clock.ensures es st) in
    let goes = subst (λ k. StepsOn k c.args.dispatcher.now later) c.requires c.in_ok-take_step.ensures.ok in
    let p = known_so _ _ _ goes es st in
    let fs = step ds call p.0 es in
    let x = effect_of ds call p.0 (args_of call p.0 (inbound (past_of es))) es in
    let stands : IsAfter fs later = p.1 in
    let o = c.target-target.result in
    let shown = snapshot_words ws in
    let gone = gone_words x es in
    let lost =
    written c.after_call.result c.add_all_lost.result _ _ c.after_call.ensures c.in_ok-after_call.was
    (c.add_all_lost.ensures es x stands
    (record {
      rows_are = λ k low d i less.
          c.rows_of-rows.ensures k low d i less
          ∙ ap (λ ts. holds_at ts (k + 1) (d + 1) i) c.touches.ensures.value
          ∙ (c.touches.ensures.reads es st).holds_are (k + 1) (d + 1) i;
      keys_are = λ w.
          ap (λ ks. cond (is_at o w) ks []) (c.deref.ensures.value ∙ c.in_ok-keys.ensures es st)
          ∙ keys_there ds es w o st.lawful (sym (c.target-target.ensures es st));
    })
    (record { no_args = refl; unnamed = λ w. refl })) in
    after_ok c.after_call-2.result c.add_changes.result _ c.after_call-2.ensures
    (from_if c.add_changes.result _ _
    (c.add_changes.ensures (past_of es) (past_of fs) (c.all_focused-before.ensures es st) (c.all_focused-after.ensures fs stands))
    (λ grown.
    sends_moved ds call es p.0 later t (shown ∷ gone) text c.add_changes.new.text.items stands goes.displays_are at
    (grown
    ∙ ap (with_lines t (focus_words (past_of es) (past_of fs)))
    (lost
    ∙ ap (with_lines t gone)
    (c.in_ok-windows.ensures ∙ ap (λ vs. text ++ line t (snapshot_words vs)) c.windows.ensures.windows ∙ one_line t shown text)
    ∙ more_lines t (shown ∷ []) gone text))
    (λ a. refl)))

pub returns-clause-made : goal.returns-clause-made
returns-clause-made c = made_so c.after_call-2.result c.add_changes.result _ _ _ c.after_call-2.ensures
    (subst (λ k. StepsOn k c.args.dispatcher.now c.take_step.new.dispatcher) c.requires c.in_ok-take_step.ensures.ok)
