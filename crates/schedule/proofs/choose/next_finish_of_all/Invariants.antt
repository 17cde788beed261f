use Rattle.std.proofs.Common.{◌≡◌, ℕ, true, List, map, None}
use Rattle.std.specs.Prelude.{option_map}
use Rattle.window_snapshot.specs.Mask.{mask_has}
use Rattle.dispatch_history.specs.History.{live as is_live}
use Rattle.dispatch_history.specs.Effect.{Effect, past_of}
use Rattle.dispatcher.specs.Dispatching.{IsAfter}
use Rattle.schedule.specs.Choosing.{next_finishes}
use Rattle.schedule.specs.DueView.{candidate_of}
use Rattle.schedule.specs.Planned.{channel_of}
use Rattle.schedule.proofs.Masked.{finishes_in}
use Rattle.schedule.proofs.choose.next_finish_of_all.Given as goal

-- the soonest so far, with the channels that are left, is the soonest of all; those that are left are live
abbrev pub invariant-loop-rest : goal.invariant-loop-rest
invariant-loop-rest l =
    record {
      live : (es : List Effect) → IsAfter es l.dispatcher → (c : ℕ) → mask_has l.rest c ≡ true → is_live (past_of es) c ≡ true;
      best : (es : List Effect) → IsAfter es l.dispatcher
          → finishes_in es l.rest 1 (map channel_of l.channels) (option_map candidate_of l.best) ≡ next_finishes es 1 (map channel_of l.channels) None;
    }

-- one channel less is left
abbrev pub decreases-loop-rest : goal.decreases-loop-rest
decreases-loop-rest l = l.rest
