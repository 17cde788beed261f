-- The jobs of a race, and the seats that they give back.
use Rattle.std.specs.Prelude.{◌≡◌, ℕ, ◌+◌, List, [], ◌∷◌, ◌++◌}
use Rattle.dispatch_calls.specs.declared.call.Call.{Call}
use Rattle.dispatch_calls.specs.declared.reply.Reply.{Reply}
use Rattle.dispatch_core.specs.Recorded.{Recorded}
use Rattle.turnstile.specs.declared.machine.Machine.{Ghosts}
use Rattle.turnstile.specs.declared.turnstile.Seat.{Seat}
use Rattle.turnstile.specs.declared.view.Record.{Record}
use Rattle.turnstile.specs.Seats.{view}
use Rattle.input_service.specs.Services.{IsOf}
use Rattle.input_service.specs.declared.service.Service.{Service}
use Rattle.replay_actors.specs.Seats.{Known, Stays}
use Rattle.replay_actors.specs.Parts.{Did, IsPart}
use Rattle.replay_actors.specs.declared.part.Part.{Part}
use Rattle.replay_actors.specs.declared.job.Job.{Job}

-- a seat with this number that made no call, and into which none was joined
pub record IsNew (number : ℕ) (v : Known) : Type 0 where
  pub number_is : v.mine.number ≡ number
  pub made : v.mine.made ≡ 0
  pub own : v.mine.own ≡ []
  pub joined : v.joined ≡ []

-- a job may begin: its seat is of the service and has made no call
pub record IsReady (s : Service) (j : Job) : Type 0 where
  pub of_service : IsOf s j.seat
  pub own : (view j.seat).mine.own ≡ []
  pub part : IsPart j.part

-- all of these jobs may begin
abbrev pub AllReady : Service → List Job → Type 0
AllReady s [] = Unit {0}
AllReady s (j ∷ js) = IsReady s j × AllReady s js

-- each part has a job, with a new seat of the next number
abbrev pub Dealt : Service → ℕ → List Part → List Job → Type 0
Dealt s n [] [] = Unit {0}
Dealt s n (p ∷ ps) (j ∷ js) = (j.part ≡ p) × IsOf s j.seat × IsNew n (view j.seat) × Dealt s (n + 1) ps js
Dealt s n ps js = ⊥

module _ {G : Ghosts Recorded (List ℕ) Call Reply} where
  -- a job gave its seat back, with all calls of its part
  abbrev pub Ended : Job → Seat Recorded (List ℕ) Call Reply G → Type 0
  Ended j e = Stays (view j.seat) (view e) × Did j.part (view e).mine.own

  -- each job gave back its seat
  abbrev pub AllEnded : Service → List Job → List (Seat Recorded (List ℕ) Call Reply G) → Type 0
  AllEnded s [] [] = Unit {0}
  AllEnded s (j ∷ js) (e ∷ es) = IsOf s e × Ended j e × AllEnded s js es
  AllEnded s js es = ⊥

  -- seats of a service
  abbrev pub AllOf : Service → List (Seat Recorded (List ℕ) Call Reply G) → Type 0
  AllOf s [] = Unit {0}
  AllOf s (e ∷ es) = IsOf s e × AllOf s es

  -- the records of seats, each followed by those joined into it, and then others
  abbrev pub records_before : List (Record Call Reply) → List (Seat Recorded (List ℕ) Call Reply G) → List (Record Call Reply)
  records_before others [] = others
  records_before others (e ∷ es) = (view e).mine ∷ (view e).joined ++ records_before others es

-- so many seats were split off from number 0, and nothing else of it changed
pub record SplitOff (n : ℕ) (v w : Known) : Type 0 where
  pub number : w.mine.number ≡ v.mine.number
  pub made : w.mine.made ≡ v.mine.made + n
  pub own : w.mine.own ≡ v.mine.own
  pub joined : w.joined ≡ v.joined
  pub setup : w.setup ≡ v.setup

-- the own record of a seat and its setup are as they were
pub record SameOwn (v w : Known) : Type 0 where
  pub mine : w.mine ≡ v.mine
  pub setup : w.setup ≡ v.setup
