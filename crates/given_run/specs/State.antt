-- A run of a given order as contracts see it.
use Rattle.std.specs.Prelude.{ℕ, List}
use Rattle.schedule.specs.State.{ScheduleState}

-- a run, how many args were handed in, and for each lane the index from which its next step is searched
pub record GivenState : Type 0 where
  pub run : ScheduleState
  pub taken : ℕ
  pub lanes : List ℕ
