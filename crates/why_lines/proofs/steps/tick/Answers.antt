use Rattle.std.proofs.Common.{◌≡◌, max, map, refl, sym, ap, ◌∙◌}
use Rattle.dispatch_calls.specs.declared.call.Call.TheVariants.{Tick}
use Rattle.dispatch_history.specs.Effect.{past_of}
use Rattle.dispatch_history.specs.Effects.{effect_of, step}
use Rattle.dispatch_history.specs.History.{clock}
use Rattle.dispatch_history.specs.Queue.{args_of, inbound}
use Rattle.dispatch_history.specs.Reply.{is_due}
use Rattle.dispatcher.specs.DispatchTables.Dues.{due_moment}
use Rattle.why_text.specs.Lines.{timeout_words}
use Rattle.why_text.specs.Words.{channels_that}
use Rattle.dispatcher.proofs.Made.Following.{known_so}
use Rattle.why_lines.proofs.Ticking.{named_loses, named_words}
use Rattle.why_lines.proofs.Outgoing.{stands_lawful, sends}
use Rattle.why_lines.proofs.steps.tick.Goals as goal

pub returns-clause-known : goal.returns-clause-known
returns-clause-known c es st =
    let ds = c.args.dispatcher.now.displays in
    let now = c.args.now in
    let call = Tick now in
    let t = c.later-clock.result in
    let later = c.take_step.new.dispatcher in
    let at : t ≡ max now (clock (past_of es)) = c.later-clock.ensures ∙ ap (max now) (c.clock.ensures es st) in
    let p = known_so _ _ _ c.in_ok-take_step.ensures.ok es st in
    (let x = effect_of ds call p.0 (args_of call p.0 (inbound (past_of es))) es in
    let lawful = stands_lawful ds (step ds call p.0 es) later p.1 c.in_ok-take_step.ensures.ok.displays_are in
    sends ds call es p.0 later t (map (timeout_words x es) (channels_that (λ w. is_due (due_moment es w) t))) c.args.lines.now.items c.add_tick.new.text.items p.1
    c.in_ok-take_step.ensures.ok.displays_are
    at
    refl
    (c.in_ok-add_tick.ensures es x st (λ w due. named_loses ds es now w p.0 lawful (ap (is_due (due_moment es w)) (sym at) ∙ due)))
    (λ a.
    ap (λ n. map (timeout_words x es) (channels_that (λ w. is_due (due_moment es w) n))) at
    ∙ named_words ds es now x p.0 st.lawful a))

pub returns-clause-made : goal.returns-clause-made
returns-clause-made c = c.in_ok-take_step.ensures.ok
