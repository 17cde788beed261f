-- What channels were sent and released: its lines are written, and the dispatcher no longer keeps it.
use Rattle.std.specs.Prelude.{◌≡◌, ℕ, ◌≤◌, true, List, length, sum_by, None}
use Rattle.dispatch_history.specs.History.{live, opened}
use Rattle.dispatch_history.specs.Effect.{Effect, past_of, stream}
use Rattle.dispatch_history.specs.Effects.{channels}
use Rattle.dispatch_history.specs.Delivery.{oldest}
use Rattle.dispatcher.specs.Access.{gone}
use Rattle.dispatcher.specs.Dispatching.{Dispatching}

-- how many messages all channels released together
abbrev pub released : List Effect → Dispatching → ℕ
released es d = sum_by (gone d) (channels (opened (past_of es)))

-- every message that a channel was sent is released
abbrev pub AllReleased : List Effect → Dispatching → Type 0
AllReleased es d = (c : ℕ) → 1 ≤ c → gone d c ≡ length (stream es c)

-- what is not released is of live channels that have an unfinished message: every other channel released all that it was sent
abbrev pub KeepsUnfinished : List Effect → Dispatching → Type 0
KeepsUnfinished es d = (c : ℕ) → 1 ≤ c → (live (past_of es) c ≡ true → oldest es c ≡ None) → gone d c ≡ length (stream es c)
