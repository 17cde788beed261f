-- What contracts see of a service and its seats.
use Rattle.std.specs.Prelude.{ℕ, List}
use Rattle.dispatch_calls.specs.declared.call.Call.{Call}
use Rattle.dispatch_calls.specs.declared.reply.Reply.{Reply}
use Rattle.dispatch_core.specs.Recorded.{Recorded}
use Rattle.turnstile.specs.Seats.{IsOf as OfTurnstile}
use Rattle.turnstile.specs.declared.machine.Machine.{Ghosts}
use Rattle.turnstile.specs.declared.turnstile.Seat.{Seat}
use Rattle.input_service.specs.declared.service.Service.{Service}

-- a seat belongs to a service
abbrev pub IsOf : {G : Ghosts Recorded (List ℕ) Call Reply} → Service → Seat Recorded (List ℕ) Call Reply G → Type 0
IsOf s seat = OfTurnstile s.turnstile seat
