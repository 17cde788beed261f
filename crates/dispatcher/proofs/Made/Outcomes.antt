-- Outcomes, made replies.
use Rattle.std.proofs.Common.{◌≡◌, ℕ, true, Result, Ok, Err, OnErr, IfOk, IsOk, refl, sym}
use Rattle.std.specs.declared.alloc.AllocError.{AllocError}
use Rattle.std.proofs.lemmas.Bool.{true≢false}
use Rattle.input_types.specs.declared.message.Args.{Args}
use Rattle.dispatch_calls.specs.declared.call.Call.{Call}
use Rattle.dispatch_calls.specs.declared.call.Call.TheVariants.{Notify, Pump}
use Rattle.dispatch_calls.specs.declared.reply.Reply.{Reply}
use Rattle.dispatcher.specs.declared.outcome.Outcome.{Outcome}
use Rattle.dispatcher.specs.Outcomes.{reply_of, replied}
use Rattle.dispatcher.specs.Queueing.{is_input}

-- what holds of an answer holds of the reply
pub replied_ok : (P : Reply → Type 0) (r : Result Outcome AllocError) → IfOk r (λ b. P (reply_of b)) → IfOk (replied r) P
replied_ok P (Ok b) h = h
replied_ok P (Err e) h = tt

pub replied_err : (P : Type 0) (r : Result Outcome AllocError) → OnErr r P → OnErr (replied r) P
replied_err P (Ok b) h = tt
replied_err P (Err e) h = h

pub replied_is : (r : Result Outcome AllocError) → IsOk r → IsOk (replied r)
replied_is (Ok b) h = refl
replied_is (Err e) h = h

-- a call that hands in no args and dispatches none is no input
pub no_input : (call : Call) → ((now : ℕ) (args : Args) → call ≡ Notify now args → ⊥) → ((now : ℕ) → call ≡ Pump now → ⊥) → is_input call ≡ true → ⊥
no_input (Notify now args) notified pumped e = notified now args refl
no_input (Pump now) notified pumped e = pumped now refl
no_input call notified pumped e = true≢false (sym e)
