-- What a call leaves of its seat.
use Rattle.std.proofs.Common.{length, refl, ap, ◌∙◌}
use Rattle.std.specs.Prelude.{Result, Ok, Err}
use Rattle.std.specs.declared.alloc.AllocError.{AllocError}
use Rattle.dispatch_calls.specs.declared.call.Call.{Call}
use Rattle.dispatch_calls.specs.declared.reply.Reply.{Reply}
use Rattle.dispatch_core.specs.Machine.{IsLegal}
use Rattle.turnstile.specs.Answers.{Answers}
use Rattle.turnstile.specs.declared.machine.Placed.{Placed}
use Rattle.replay_actors.specs.Seats.{Known, Stays, Adds, Refuses}

-- nothing is changed
pub stays_so : (v : Known) → Stays v v
stays_so v = record { number = refl; made = refl; joined = refl }

-- one change after another
pub stays_on : (u v w : Known) → Stays u v → Stays v w → Stays u w
stays_on u v w a b = record { number = b.number ∙ a.number; made = b.made ∙ a.made; joined = b.joined ∙ a.joined }

-- an answered call, or one without memory
pub answered_stays : (v w : Known) (call : Call) (r : Result (Placed Reply) AllocError) → Answers IsLegal v call r w → Stays v w
answered_stays v w call (Ok p) a =
    record { number = ap (λ (x : Known). x.mine.number) a.3; made = ap (λ (x : Known). x.mine.made) a.3; joined = ap (λ (x : Known). x.joined) a.3 }
answered_stays v w call (Err e) a =
    record { number = ap (λ (x : Known). x.mine.number) a.1; made = ap (λ (x : Known). x.mine.made) a.1; joined = ap (λ (x : Known). x.joined) a.1 }

-- an answered call is the newest of the seat's own
pub answered_adds : (v w : Known) (call : Call) (p : Placed Reply) → Answers IsLegal v call (Ok p) w → Adds call p.reply v w
answered_adds v w call p a = (length a.1, ap (λ (x : Known). x.mine.own) a.3)

-- a call without memory had the turn
pub answered_refuses : (v w : Known) (call : Call) (e : AllocError) → Answers IsLegal v call (Err e) w → Refuses v w
answered_refuses v w call e a = a
