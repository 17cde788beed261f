use Rattle.std.proofs.Common.{◌≡◌, slice_get, option_copied, Some, None, cond, [], refl, sym, ap, ◌∙◌}
use Rattle.dispatch_calls.specs.declared.call.Call.TheVariants.{Pump}
use Rattle.dispatch_calls.specs.declared.reply.Reply.TheVariants.{Dispatched}
use Rattle.dispatch_history.specs.Effect.{past_of}
use Rattle.dispatch_history.specs.Effects.{effect_of}
use Rattle.dispatch_history.specs.KeySent.{last_key, repeat_due}
use Rattle.dispatch_history.specs.Queue.{inbound}
use Rattle.dispatch_history.specs.Reply.{is_due}
use Rattle.why_text.specs.Lines.{repeat_words}
use Rattle.why_lines.specs.Growing.{with_lines}
use Rattle.why_lines.proofs.Growing.{same_after}
use Rattle.why_lines.proofs.Pumping.{none_waits, pump_first, pump_none}
use Rattle.why_lines.proofs.pumps.add_pump.Goals as goal

pub returns-in-Some : goal.returns-in-Some
returns-in-Some c es now st at =
    let text = c.args.text.now.items in
    let ds = c.args.dispatcher.now.displays in
    let a = c.in-Some.args.now in
    let first : slice_get (inbound (past_of es)) 0 ≡ Some a = sym (c.first.ensures es st) ∙ ap option_copied c.in-Some.is in
    let x = effect_of ds (Pump now) Dispatched (Some a) es in
    same_after c.add_args.result c.add_args.new.text.items _ _ (c.add_args.ensures es x st first refl)
    (ap (λ words. with_lines c.args.clock words text) (sym (pump_first ds es now a first)))

pub returns-in-None : goal.returns-in-None
returns-in-None c es now st at =
    let text = c.args.text.now.items in
    let ds = c.args.dispatcher.now.displays in
    let first : slice_get (inbound (past_of es)) 0 ≡ None = sym (c.first.ensures es st) ∙ ap option_copied c.in-None.is in
    same_after c.add_repeat.result c.add_repeat.new.text.items _ _ (c.add_repeat.ensures es st (none_waits es first))
    (ap (λ words. with_lines c.args.clock words text)
    (ap (λ t. cond (is_due (repeat_due es) t) (repeat_words (last_key es)) []) at ∙ sym (pump_none ds es now first)))
