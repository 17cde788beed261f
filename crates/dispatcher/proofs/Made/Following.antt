-- For callers: what a call leaves, whatever it was answered.
use Rattle.std.proofs.Common.{◌≡◌, List, Result, Ok, Err, IfOk, OnOk, OnErr, sym, ap, subst}
use Rattle.dispatch_calls.specs.declared.call.Call.{Call}
use Rattle.dispatch_calls.specs.declared.reply.Reply.{Reply}
use Rattle.dispatch_history.specs.Effect.{Effect}
use Rattle.dispatch_history.specs.Effects.{step}
use Rattle.dispatch_history.specs.Reply.{reply_to}
use Rattle.dispatcher.specs.Answered.{Answers, StepsOn}
use Rattle.dispatcher.specs.Dispatching.{Dispatching, IsAfter, StandsFor}

-- where a call was answered, the dispatcher went one step on
pub steps_if : {A E : Type 0} (f : A → Reply) (call : Call) (r : Result A E) (old new : Dispatching)
    → IfOk r (λ a. Answers call (f a) old new) → OnOk r (StepsOn call old new)
steps_if f call (Ok a) old new h = h.goes
steps_if f call (Err e) old new h = tt

-- it is as after what it was after with some answer to the call
pub known_so : (call : Call) (old new : Dispatching) → StepsOn call old new → (es : List Effect) → IsAfter es old
    → (answer : Reply) × IsAfter (step old.displays call answer es) new
known_so call old new s es st = (reply_to es call, s.known es st)

pub known_if : {A E : Type 0} (call : Call) (r : Result A E) (old new : Dispatching) → OnOk r (StepsOn call old new)
    → (es : List Effect) → IsAfter es old → OnOk r ((answer : Reply) × IsAfter (step old.displays call answer es) new)
known_if call (Ok a) old new s es st = known_so call old new s es st
known_if call (Err e) old new s es st = tt

-- no display changed, answered or not
pub displays_if : {A E : Type 0} (call : Call) (r : Result A E) (old new : Dispatching) → OnOk r (StepsOn call old new) → OnErr r (new ≡ old)
    → new.displays ≡ old.displays
displays_if call (Ok a) old new s err = s.displays_are
displays_if call (Err e) old new s err = ap (λ d. d.displays) err

-- it stands for what it stood for with this answer to the call
pub stands_with : (call : Call) (answer : Reply) (old new : Dispatching) → Answers call answer old new
    → (es : List Effect) → StandsFor es old → StandsFor (step old.displays call answer es) new
stands_with call answer old new h es s =
    subst (λ a. StandsFor (step old.displays call a es) new) (sym (h.reply_is es s)) (h.goes.after es s)
