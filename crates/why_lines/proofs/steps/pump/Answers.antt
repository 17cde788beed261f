use Rattle.std.proofs.Common.{◌≡◌, max, refl, sym, ap, ◌∙◌}
use Rattle.dispatch_calls.specs.declared.call.Call.TheVariants.{Pump}
use Rattle.dispatch_history.specs.Effect.{past_of}
use Rattle.dispatch_history.specs.History.{clock}
use Rattle.dispatcher.proofs.Made.Following.{known_so}
use Rattle.why_lines.specs.Pumping.{pump_words}
use Rattle.why_lines.proofs.Outgoing.{answered_words, sends}
use Rattle.why_lines.proofs.steps.pump.Goals as goal

pub returns-clause-known : goal.returns-clause-known
returns-clause-known c es st =
    let ds = c.args.dispatcher.now.displays in
    let now = c.args.now in
    let at : c.later-clock.result ≡ max now (clock (past_of es)) = c.later-clock.ensures ∙ ap (max now) (c.clock.ensures es st) in
    let p = known_so _ _ _ c.in_ok-pump.ensures.ok.goes es st in
    (sends ds (Pump now) es p.0 c.pump.new.self c.later-clock.result (pump_words ds now es) c.args.lines.now.items c.add_pump.new.text.items p.1
    c.in_ok-pump.ensures.ok.goes.displays_are
    at
    refl
    (c.in_ok-add_pump.ensures es now st at)
    (λ a. ap (answered_words ds (Pump now) es) (sym a)))

pub returns-clause-made : goal.returns-clause-made
returns-clause-made c = c.in_ok-pump.ensures.ok.goes
