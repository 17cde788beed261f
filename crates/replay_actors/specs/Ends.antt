-- The history that a race leaves, by caller.
use Rattle.std.specs.Prelude.{◌≡◌, ◌+◌, ℕ, Bool, List, ◌++◌}
use Rattle.input_types.specs.declared.message.Args.{Args}
use Rattle.dispatch_calls.specs.declared.call.Call.{Call}
use Rattle.dispatch_calls.specs.declared.reply.Reply.{Reply}
use Rattle.dispatch_core.specs.Machine.{steps}
use Rattle.turnstile.specs.History.{Entry as Called}
use Rattle.replay_actors.specs.Lanes.{Own}
use Rattle.replay_actors.specs.Race.{Each}
use Rattle.replay_actors.specs.Raced.{Raced}
use Rattle.replay_actors.specs.Settling.{settling, receives_from}

-- the calls of the lanes come first, and then those of the caller, number 0, by which it does all that is left to do:
-- no call comes between them, and none after them
pub record IsSettledRace (displays : List ℕ) (finishing : ℕ → Bool) (channels : ℕ) (opens : List Own)
    (cooked : List (ℕ × Args)) (scripts : List (List Call)) (h : List (Called Call Reply)) : Type 0 where
  pub lanes : List (Called Call Reply)
  pub raced : Raced displays finishing channels opens cooked scripts lanes
  pub since : List (Called Call Reply)
  pub entries_are : h ≡ since ++ lanes
  pub of_caller : Each (λ e. e.0 ≡ 0) since
  pub stands : settling finishing (steps since) ≡ receives_from (channels + 1)
