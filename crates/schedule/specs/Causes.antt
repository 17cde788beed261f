-- The causes of the calls of a run, if the run writes them.
use Rattle.std.specs.Prelude.{◌≡◌, ℕ, List, ◌++◌, Option, Some, None, option_map}
use Rattle.dispatch_calls.specs.declared.call.Call.{Call}
use Rattle.dispatch_calls.specs.declared.reply.Reply.{Reply}
use Rattle.dispatch_history.specs.Effect.{Effect, past_of}
use Rattle.dispatch_history.specs.Effects.{effect_of, step}
use Rattle.dispatch_history.specs.Queue.{args_of, inbound}
use Rattle.dispatcher.specs.Dispatching.{Dispatching, IsAfter}
use Rattle.why_text.specs.Text.{step_text, why_text}
use Rattle.schedule.specs.declared.keeping.Lines.{Lines}
use Rattle.schedule.specs.declared.keeping.Lines.TheVariants.{Kept, Counted, Causes}

-- the text of the causes of all steps, where a run explains them
abbrev pub causes_of : Lines → (displays : List ℕ) → List Effect → Option (List ℕ)
causes_of Kept displays es = None
causes_of Counted displays es = None
causes_of Causes displays es = Some (why_text displays es)

-- an optional text with some more appended
abbrev pub and_more : List ℕ → Option (List ℕ) → Option (List ℕ)
and_more more text = option_map (λ t. t ++ more) text

-- the text of a step with this call and reply
abbrev pub sent_of : (displays : List ℕ) → Call → Reply → List Effect → List ℕ
sent_of displays call answer es = step_text displays (effect_of displays call answer (args_of call answer (inbound (past_of es))) es) es

-- A call is answered: the dispatcher is as after one more step, and a text of causes, if there is one, grows by exactly the text of the step.
pub record Applies (call : Call) (es : List Effect) (displays : List ℕ) (old new : Option (List ℕ)) (d : Dispatching) : Type 0 where
  pub answer : Reply
  pub stands : IsAfter (step displays call answer es) d
  pub causes : new ≡ and_more (sent_of displays call answer es) old
