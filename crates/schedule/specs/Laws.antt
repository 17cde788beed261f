-- Proved facts about what a run prints.
use Rattle.std.specs.Prelude.{◌≡◌, ℕ, true, List, Some, IsTrue}
use Rattle.input_types.specs.StreamRule.{stream_state, is_well_formed}
use Rattle.dispatch_history.specs.Effect.{Effect, past_of, stream}
use Rattle.dispatch_history.specs.History.{live}
use Rattle.dispatch_history.specs.Known.{known_state}
use Rattle.dispatch_history.specs.Plan.{Plan}
use Rattle.schedule.specs.declared.keeping.Lines.{Lines}
use Rattle.schedule.specs.State.{ScheduleState, ReadyWith}

-- The stream of each channel is well-formed, and that of a live one leaves its owner knowing what its window holds: the pointers and the
-- keys that are down are just those, and it knows whether it is focused.
abbrev pub StreamsLaw : Type 0
StreamsLaw =
    (how : Lines) (plan : Plan) (es : List Effect) (s : ScheduleState) (c : ℕ)
    → ReadyWith how plan es s
    → IsTrue (is_well_formed (stream es c))
    × (live (past_of es) c ≡ true → stream_state (stream es c) ≡ Some (known_state es c))
