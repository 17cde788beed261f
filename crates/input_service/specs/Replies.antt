-- The reply to a call through a service.
use Rattle.std.specs.Prelude.{◌≡◌, ℕ, List, ◌∷◌, length, Some}
use Rattle.dispatch_calls.specs.declared.call.Call.{Call}
use Rattle.dispatch_calls.specs.declared.reply.Reply.{Reply}
use Rattle.dispatch_core.specs.Machine.{steps}
use Rattle.dispatch_history.specs.Legal.{Legal, reply}
use Rattle.turnstile.specs.History.{Entry}
use Rattle.turnstile.specs.declared.machine.Placed.{Placed}
use Rattle.turnstile.specs.declared.view.View.{View}

-- What an answered call says about the core: its history before the place is legal for the displays, and the reply is
-- the one that this history requires. With the call's entry, the history is what the seat has then seen
pub record Replied (v : View (List ℕ) Call Reply) (call : Call) (answer : Placed Reply) (w : View (List ℕ) Call Reply) : Type 0 where
  pub displays : List ℕ
  pub before : List (Entry Call Reply)
  pub displays_are : v.setup ≡ Some displays
  pub seen : w.known ≡ (v.mine.number, call, answer.reply) ∷ before
  pub place : answer.place ≡ length before
  pub legal_before : Legal displays (steps before)
  pub reply_is : answer.reply ≡ reply displays (steps before) call
