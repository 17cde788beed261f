-- A step that is made and explained.
use Rattle.std.specs.Prelude.{◌≡◌, List, ℕ, ◌++◌, Result, Ok, Err, OnOk}
use Rattle.dispatch_calls.specs.declared.call.Call.{Call}
use Rattle.dispatch_calls.specs.declared.reply.Reply.{Reply}
use Rattle.dispatch_history.specs.Effect.{Effect, past_of}
use Rattle.dispatch_history.specs.Effects.{effect_of, step}
use Rattle.dispatch_history.specs.Queue.{args_of, inbound}
use Rattle.dispatcher.specs.Answered.{StepsOn}
use Rattle.dispatcher.specs.Dispatching.{Dispatching, IsAfter, StandsFor}
use Rattle.why_text.specs.Text.{step_text}
use Rattle.why_lines.specs.declared.error.OutOfMemory.{OutOfMemory}
use Rattle.why_lines.specs.declared.error.OutOfMemory.TheVariants.{BeforeCall, AfterCall}

-- The call is answered: the dispatcher stands for the history with this step added, and the text grew by exactly the text of the step.
pub record Explains (call : Call) (es : List Effect) (displays old new : List ℕ) (d : Dispatching) : Type 0 where
  pub answer : Reply
  pub stands : StandsFor (step displays call answer es) d
  pub text_is : new ≡ old ++ step_text displays (effect_of displays call answer (args_of call answer (inbound (past_of es))) es) es

-- The same for a dispatcher that matches a history except for released messages.
pub record ExplainsAfter (call : Call) (es : List Effect) (displays old new : List ℕ) (d : Dispatching) : Type 0 where
  pub answer : Reply
  pub stands : IsAfter (step displays call answer es) d
  pub text_is : new ≡ old ++ step_text displays (effect_of displays call answer (args_of call answer (inbound (past_of es))) es) es

-- If memory does not run out, the text grows by exactly the text of the call's step, after each history that the dispatcher matched.
abbrev pub ExplainsCall : {A E : Type 0} → Result A E → Call → (old new : List ℕ) → (before after : Dispatching) → Type 0
ExplainsCall result call old new before after =
    (es : List Effect) → IsAfter es before → OnOk result (ExplainsAfter call es before.displays old new after)

-- The answer says whether the call was made: it was if the answer is Ok or AfterCall; if it is BeforeCall, nothing changed.
abbrev pub MakesAsSaid : {A : Type 0} → Result A OutOfMemory → Call → (old new : Dispatching) → Type 0
MakesAsSaid (Ok done) call old new = StepsOn call old new
MakesAsSaid (Err BeforeCall) call old new = new ≡ old
MakesAsSaid (Err AfterCall) call old new = StepsOn call old new

-- the answer of a call that was made, from that of what was done after it
abbrev pub after_call : {A E : Type 0} → Result A E → Result A OutOfMemory
after_call (Ok done) = Ok done
after_call (Err error) = Err AfterCall
