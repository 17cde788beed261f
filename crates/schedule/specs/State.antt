-- A run of a plan as contracts see it, and what it stands for.
use Rattle.std.specs.Prelude.{◌≡◌, ℕ, ◌-◌, ◌^◌, ◌≤◌, ◌<◌, min, max, nat_lt, ◌||◌, Bool, true, List, ◌++◌, length, fold, Option}
use Rattle.dispatch_history.specs.History.{opened, live, received, clock}
use Rattle.dispatch_history.specs.Effect.{Effect, past_of}
use Rattle.dispatch_history.specs.Delivery.{published, delivery}
use Rattle.dispatch_history.specs.Plan.{Plan, Cooked}
use Rattle.dispatch_history.specs.Ordered.{Rounds, Ordered, received_at, scripted, notified}
use Rattle.dispatcher.specs.Access.{anrs_released}
use Rattle.dispatcher.specs.Dispatching.{Dispatching, IsAfter}
use Rattle.schedule.specs.declared.keeping.Lines.{Lines}
use Rattle.schedule.specs.declared.keeping.Lines.TheVariants.{Kept}
use Rattle.schedule.specs.Causes.{causes_of}
use Rattle.schedule.specs.Lines.{Drained, texts}
use Rattle.schedule.specs.Released.{AllReleased, released}
use Rattle.schedule.specs.Run.{with_cooked, messages_in, IsWithin}

-- a run: the dispatcher, the lines of what each channel was sent and released, the causes of the calls if it writes them, how many steps and
-- how many calls were made, how many messages were released, and the latest moment of args
pub record ScheduleState : Type 0 where
  pub dispatcher : Dispatching
  pub lines : List (List ℕ)
  pub causes : Option (List ℕ)
  pub next : ℕ
  pub calls : ℕ
  pub messages : ℕ
  pub latest : ℕ

-- a number counted in 64 bits, saturated at the greatest of them
abbrev pub counted : ℕ → ℕ
counted n = min n (2 ^ 64 - 1)

-- it has more calls or more messages than may be
abbrev pub is_over : ScheduleState → Bool
is_over s = nat_lt 4000000 s.calls || nat_lt 4000000 s.messages

-- The run is as after these effects, and no ANR was released. It has the lines of what each channel released, or none if it keeps no lines; if it
-- explains causes it has their text. It counts the messages that were released.
pub record HasWith (how : Lines) (plan : Plan) (es : List Effect) (s : ScheduleState) : Type 0 where
  pub stands : IsAfter es s.dispatcher
  pub displays_are : s.dispatcher.displays ≡ plan.displays
  pub noted : anrs_released s.dispatcher ≡ 0
  pub drained : Drained es s.dispatcher s.lines
  pub as_many : length s.lines ≡ texts how (length plan.channels)
  pub causes_are : s.causes ≡ causes_of how plan.displays es
  pub next_is : s.next ≡ scripted (past_of es)
  pub calls_are : s.calls ≡ counted (length es)
  pub released_are : s.messages ≡ counted (released es s.dispatcher)

-- what a channel's owner received was delivered when it was received, and what it did not receive is delivered now
pub record Behind (es : List Effect) (c : ℕ) : Type 0 where
  pub taken : (k : ℕ) → 1 ≤ k → k ≤ received (past_of es) c → received_at (past_of es) c k ≡ delivery es c k
  pub fresh : (k : ℕ) → received (past_of es) c < k → k ≤ published es c → delivery es c k ≡ clock (past_of es)

-- the owners of all live channels have received all that is published, when it was delivered
pub record Caught (es : List Effect) : Type 0 where
  pub all : (c : ℕ) → live (past_of es) c ≡ true → received (past_of es) c ≡ published es c
  pub behind : (c : ℕ) → live (past_of es) c ≡ true → Behind es c

-- it stands for these effects between two rounds
pub record ReadyWith (how : Lines) (plan : Plan) (es : List Effect) (s : ScheduleState) : Type 0 where
  pub has : HasWith how plan es s
  pub caught : Caught es
  pub opened_is : opened (past_of es) ≡ length plan.channels
  pub all_released : AllReleased es s.dispatcher
  pub messages_are : s.messages ≡ counted (messages_in es)

-- these args came so far, and what comes before them was done; a run that became too long goes no further
pub record RanWith (how : Lines) (plan : Plan) (given : List Cooked) (s : ScheduleState) : Type 0 where
  pub es : List Effect
  pub ready : ReadyWith how plan es s
  pub rounds : (later : List Cooked) → Rounds (with_cooked plan (given ++ later)) es
  pub taken : IsWithin es → notified (past_of es) ≡ length given
  pub latest_is : s.latest ≡ fold (λ t (a : Cooked). max t a.moment) 0 given

-- the run of all of these args is done, unless it became too long
pub record CompletedWith (how : Lines) (plan : Plan) (given : List Cooked) (s : ScheduleState) : Type 0 where
  pub es : List Effect
  pub ready : ReadyWith how plan es s
  pub rounds : Rounds (with_cooked plan given) es
  pub ordered : IsWithin es → Ordered (with_cooked plan given) es

-- it stands for these effects and has the lines
abbrev pub Has : Plan → List Effect → ScheduleState → Type 0
Has plan es s = HasWith Kept plan es s

-- it stands for these effects between two rounds and has the lines
abbrev pub Ready : Plan → List Effect → ScheduleState → Type 0
Ready plan es s = ReadyWith Kept plan es s

-- these args came so far to a run that has the lines
abbrev pub Ran : Plan → List Cooked → ScheduleState → Type 0
Ran plan given s = RanWith Kept plan given s

-- the run of all of these args is done and has the lines, unless it became too long
abbrev pub Completed : Plan → List Cooked → ScheduleState → Type 0
Completed plan given s = CompletedWith Kept plan given s
