-- A call that was made, or was not.
use Rattle.std.proofs.Common.{◌≡◌, ℕ, List, Result, Ok, Err, IfOk, OnOk, sym, ◌∙◌, subst}
use Rattle.dispatch_calls.specs.declared.call.Call.{Call}
use Rattle.dispatch_history.specs.Effect.{Effect}
use Rattle.dispatcher.specs.Answered.{StepsOn}
use Rattle.dispatcher.specs.Dispatching.{Dispatching, StandsFor}
use Rattle.dispatcher.proofs.Laws.Standing.{stands_on}
use Rattle.why_lines.specs.Explaining.{Explains, ExplainsAfter, MakesAsSaid, after_call}
use Rattle.why_lines.specs.declared.error.OutOfMemory.{OutOfMemory}
use Rattle.why_lines.specs.declared.error.OutOfMemory.TheVariants.{BeforeCall, AfterCall}

-- what holds of a dispatcher that stayed, and of one that made the call, holds
pub as_said : {A : Type 0} (r : Result A OutOfMemory) (call : Call) (old new : Dispatching) (P : Dispatching → Type 0) → MakesAsSaid r call old new → P old
    → (StepsOn call old new → P new) → P new
as_said (Ok x) call old new P made stays steps = steps made
as_said (Err BeforeCall) call old new P made stays steps = subst P (sym made) stays
as_said (Err AfterCall) call old new P made stays steps = steps made

-- the call was made, whatever came after it
pub made_so : {A E : Type 0} (q : Result A OutOfMemory) (r : Result A E) (call : Call) (old new : Dispatching) → q ≡ after_call r → StepsOn call old new
    → MakesAsSaid q call old new
made_so {A = A} q r call old new is s = subst (λ x. MakesAsSaid x call old new) (sym is) (by_answer r)
  where
    by_answer : {E : Type 0} (r : Result A E) → MakesAsSaid (after_call r) call old new
    by_answer (Ok x) = s
    by_answer (Err e) = s

pub after_ok : {A E : Type 0} (q : Result A OutOfMemory) (r : Result A E) (P : Type 0) → q ≡ after_call r → OnOk r P → OnOk q P
after_ok {A = A} q r P is p = subst (λ x. OnOk x P) (sym is) (by_answer r p)
  where
    by_answer : {E : Type 0} (r : Result A E) → OnOk r P → OnOk (after_call r) P
    by_answer (Ok x) p = p
    by_answer (Err e) p = tt

-- after a call, lines were written where the answer is Ok
pub written : {A E : Type 0} (q : Result A OutOfMemory) (r : Result A E) (x : A) (P : Type 0) → q ≡ after_call r → q ≡ Ok x → IfOk r (λ y. P) → P
written q (Ok y) x P is ok p = p
written q (Err e) x P is ok p = absurd (cc (sym is ∙ ok))

-- where the dispatcher stood for a history, it stands for it with one step more, and explains the same
pub sends_now : (call : Call) (es : List Effect) (text outgoing : List ℕ) (old new : Dispatching) → StandsFor es old → StepsOn call old new
    → ExplainsAfter call es old.displays text outgoing new → Explains call es old.displays text outgoing new
sends_now call es text outgoing old new st made t =
    record { answer = t.answer; stands = stands_on call t.answer es old new st made.displays_are made.gone_are t.stands; text_is = t.text_is }

pub sends_of : {A : Type 0} (call : Call) (r : Result A OutOfMemory) (es : List Effect) (text outgoing : List ℕ) (old new : Dispatching) → StandsFor es old
    → MakesAsSaid r call old new → OnOk r (ExplainsAfter call es old.displays text outgoing new) → OnOk r (Explains call es old.displays text outgoing new)
sends_of call (Ok x) es text outgoing old new st made t = sends_now call es text outgoing old new st made t
sends_of call (Err x) es text outgoing old new st made t = tt
