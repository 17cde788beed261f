-- A core as a machine that threads share.
use Rattle.std.specs.Prelude.{ℕ, List, map}
use Rattle.dispatch_calls.specs.declared.call.Call.{Call}
use Rattle.dispatch_calls.specs.declared.call.Entry.{Entry}
use Rattle.dispatch_calls.specs.declared.reply.Reply.{Reply}
use Rattle.dispatch_history.specs.History.{History}
use Rattle.dispatch_history.specs.Legal.{Legal}
use Rattle.turnstile.specs.History.{Entry as Called}

-- the entries of a core, as a turnstile has them: the number of the seat, the call and the reply
abbrev pub called : List Entry → List (Called Call Reply)
called entries = map (λ e. (e.seat, e.call, e.reply)) entries

-- the history of a turnstile's entries: no rule of a core reads who made a call
abbrev pub steps : List (Called Call Reply) → History
steps h = map (λ e. (e.1, e.2)) h

-- the history of a core is this, whoever called
abbrev pub IsLegal : List ℕ → List (Called Call Reply) → Type 0
IsLegal displays h = Legal displays (steps h)
