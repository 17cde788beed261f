-- A dispatcher after a call.
use Rattle.std.specs.Prelude.{◌≡◌, ◌≤◌, ◌+◌, ℕ, true, false, List, Result, IsOk}
use Rattle.input_types.specs.declared.message.Args.{Args}
use Rattle.dispatch_calls.specs.declared.call.Call.{Call}
use Rattle.dispatch_calls.specs.declared.call.Call.TheVariants.{Notify}
use Rattle.dispatch_calls.specs.declared.reply.Reply.{Reply}
use Rattle.dispatch_calls.specs.declared.reply.Reply.TheVariants.{Taken}
use Rattle.dispatch_history.specs.Effect.{Effect}
use Rattle.dispatch_history.specs.Legal.{answered}
use Rattle.dispatch_history.specs.Reply.{reply_to}
use Rattle.dispatcher.specs.Access.{gone, anrs_released, is_waiting}
use Rattle.dispatcher.specs.Dispatching.{Dispatching, IsAfter, StandsFor}
use Rattle.dispatcher.specs.Memory.{IsCalm, MayCount}
use Rattle.dispatcher.specs.Queueing.{args_in, is_pump}

-- The dispatcher made a call. If it matched or stood for a history, it now does so for that history with this call and its answer added. The
-- displays stay, no message and no ANR is released, and only args that are handed in use the room for args.
pub record StepsOn (call : Call) (old new : Dispatching) : Type 0 where
  pub known : (es : List Effect) → IsAfter es old → IsAfter (answered old.displays call es) new
  pub after : (es : List Effect) → StandsFor es old → StandsFor (answered old.displays call es) new
  pub displays_are : new.displays ≡ old.displays
  pub gone_are : (c : ℕ) → 1 ≤ c → gone new c ≡ gone old c
  pub anrs_are : anrs_released new ≡ anrs_released old
  pub room_is : old.queue.spare ≤ new.queue.spare + args_in call

-- the dispatcher made one call and then another
pub record StepsTwice (first second : Call) (old new : Dispatching) : Type 0 where
  pub between : Dispatching
  pub first_made : StepsOn first old between
  pub second_made : StepsOn second between new

-- args need not wait: no others do, and they may follow what is down on their device
abbrev pub NeedNotWait : List Effect → (now : ℕ) → Args → Type 0
NeedNotWait es now args = (is_waiting es ≡ false) × (reply_to es (Notify now args) ≡ Taken)

-- The dispatcher made the call and answered it so: this is the reply after each history that it stood for.
pub record Answers (call : Call) (answer : Reply) (old new : Dispatching) : Type 0 where
  pub goes : StepsOn call old new
  pub reply_is : (es : List Effect) → StandsFor es old → answer ≡ reply_to es call

-- a call that needs no memory is answered
abbrev pub AnswersCalm : {A E : Type 0} → Call → Dispatching → Result A E → Type 0
AnswersCalm call d r = (es : List Effect) → IsAfter es d → MayCount es → IsCalm es call → IsOk r

-- args are answered where room for them was reserved
abbrev pub AnswersReserved : {A E : Type 0} → Call → Dispatching → Result A E → Type 0
AnswersReserved call d r = (es : List Effect) → IsAfter es d → MayCount es → args_in call ≡ 1 → 1 ≤ d.queue.spare → IsOk r

-- a pump is answered where room for it was reserved
abbrev pub AnswersPumped : {A E : Type 0} → Call → Dispatching → Result A E → Type 0
AnswersPumped call d r = (es : List Effect) → IsAfter es d → MayCount es → is_pump call ≡ true → 1 ≤ d.queue.pumps → IsOk r
