-- The causes of a pump.
use Rattle.std.specs.Prelude.{ℕ, List}
use Rattle.dispatch_calls.specs.declared.call.Call.TheVariants.{Pump}
use Rattle.dispatch_history.specs.Effect.{Effect, past_of}
use Rattle.dispatch_history.specs.Effects.{effect_of}
use Rattle.dispatch_history.specs.Queue.{args_of, inbound}
use Rattle.dispatch_history.specs.Reply.{reply_to}
use Rattle.why_text.specs.Lines.{call_words}

-- the lines of a pump after a history with these effects, with the required answer
abbrev pub pump_words : List ℕ → ℕ → List Effect → List (List ℕ)
pump_words displays now es =
    let answer = reply_to es (Pump now) in
    call_words displays (Pump now) answer (effect_of displays (Pump now) answer (args_of (Pump now) answer (inbound (past_of es))) es) es
