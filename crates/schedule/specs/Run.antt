-- How far the ordered run of a plan has come.
use Rattle.std.specs.Prelude.{ℕ, ◌≤◌, List, length, sum_by}
use Rattle.dispatch_history.specs.History.{opened}
use Rattle.dispatch_history.specs.Effect.{Effect, past_of, stream}
use Rattle.dispatch_history.specs.Effects.{channels}
use Rattle.dispatch_history.specs.Plan.{Plan, Cooked}

-- a plan with these args
abbrev pub with_cooked : Plan → List Cooked → Plan
with_cooked plan cooked = record plan { cooked = cooked }

-- how many messages all channels were sent together
abbrev pub messages_in : List Effect → ℕ
messages_in es = sum_by (λ c. length (stream es c)) (channels (opened (past_of es)))

-- the most calls of a run, and the most messages of its channels together
unfoldable pub run_limit : ℕ
run_limit = 4000000

-- a run with no more calls and no more messages than may be
abbrev pub IsWithin : List Effect → Type 0
IsWithin es = (length es ≤ run_limit) × (messages_in es ≤ run_limit)

-- a run that has more calls or more messages
abbrev pub IsTooLong : List Effect → Type 0
IsTooLong es = IsWithin es → ⊥
