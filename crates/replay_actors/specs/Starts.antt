-- How a race may begin, and what is left of it.
use Rattle.std.specs.Prelude.{◌≡◌, ◌≤◌, length, Some}
use Rattle.turnstile.specs.Seats.{view}
use Rattle.window_snapshot.specs.Mask.{mask_has}
use Rattle.dispatch_core.specs.Machine.{called}
use Rattle.dispatch_core.specs.Recorded.{IsSound}
use Rattle.input_service.specs.Services.{IsOf}
use Rattle.replay_actors.specs.Raced.{OnlyOpens}
use Rattle.replay_actors.specs.Race.{IsRace}
use Rattle.replay_actors.specs.Ends.{IsSettledRace}
use Rattle.replay_actors.specs.Plans.{scripted}
use Rattle.replay_actors.specs.declared.part.RaceEnd.{RaceEnd}
use Rattle.replay_actors.specs.declared.runner.Start.{Start}

-- A race may begin so: the seat is the caller's, of number 0, which has opened as many channels as the lanes have, and made no other call.
pub record MayRun (s : Start) : Type 0 where
  pub channels : s.lanes.channels ≤ 64
  pub scripts : length s.lanes.scripts.items ≤ 8
  pub of_service : IsOf s.service s.seat
  pub number : (view s.seat).mine.number ≡ 0
  pub made : (view s.seat).mine.made ≡ 0
  pub opens : OnlyOpens (view s.seat).mine.own
  pub opened : length (view s.seat).mine.own ≡ s.lanes.channels

-- What a race with this start may leave: a sound core, whose history is a race of these lanes that is settled.
pub record Left (s : Start) (end : RaceEnd) : Type 0 where
  pub displays : (view s.seat).setup ≡ Some end.core.displays
  pub race :
      IsRace end.core.displays (mask_has s.lanes.finishing) (view s.seat).mine.own s.lanes.cooked.items (scripted s.lanes.scripts.items)
      end.script_seats.items (called end.core.entries)
  pub settled :
      IsSettledRace end.core.displays (mask_has s.lanes.finishing) s.lanes.channels (view s.seat).mine.own s.lanes.cooked.items
      (scripted s.lanes.scripts.items) (called end.core.entries)
  pub seats : length end.script_seats.items ≡ length s.lanes.scripts.items
  pub sound : IsSound end.core

-- A function that runs races accepts every allowed start, and returns an end that such a race may leave, or none.
abbrev pub RunsRaces : (Start → Type 0) → (Start → RaceEnd → Type 0) → Type 0
RunsRaces pre post = ((s : Start) → MayRun s → pre s) × ((s : Start) (end : RaceEnd) → MayRun s → post s end → Left s end)

-- an end that was answered for some start
abbrev pub EndBy : (Start → RaceEnd → Type 0) → RaceEnd → Type 0
EndBy post end = (s : Start) × MayRun s × post s end
