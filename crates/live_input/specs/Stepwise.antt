-- What is due up to a time, where clients are choked as soon as they pass the limit.
use Rattle.std.specs.Prelude.{ℕ, ◌≡◌, ◌||◌, ◌⊎◌, true, List, [], Some, None}
use Rattle.window_snapshot.specs.Mask.{mask_has}
use Rattle.dispatch_calls.specs.declared.call.Call.{Call}
use Rattle.dispatch_history.specs.Delivery.{is_reported_by}
use Rattle.dispatch_history.specs.Effect.{Effect}
use Rattle.dispatch_history.specs.Legal.{answered}
use Rattle.dispatch_history.specs.Reply.{reply_to}
use Rattle.live_input.specs.declared.limit.Limited.{Limited}
use Rattle.live_input.specs.Answers.{SameClients, SameSeats}
use Rattle.live_input.specs.Easing.{EasesPart, GoesEased}
use Rattle.live_input.specs.Giving.{HandedInPart, notified}
use Rattle.live_input.specs.Limit.{eased_by, easings}
use Rattle.live_input.specs.LimitedCalls.{EasedAlone}
use Rattle.live_input.specs.Settling.{next_due}
use Rattle.live_input.specs.Standing.{LiveIs}

-- What must still be handed in is handed in at this moment, which is then the clock. Nothing is dispatched by that.
pub record HandsAll (displays : List ℕ) (now : ℕ) (es : List Effect) (old new : Limited) : Type 0 where
  pub is : LiveIs displays (notified displays now es old.live.pending) new.live
  pub none : new.live.pending ≡ []
  pub clock_is : new.live.clock ≡ now
  pub reported_is : new.live.reported ≡ old.live.reported
  pub devices_are : new.live.devices ≡ old.live.devices
  pub seats_are : SameSeats old.live new.live
  pub wanted_is : new.wanted ≡ old.wanted

-- The service is eased, and then the one thing is done that is due next. The channels that it reports are recorded.
pub record DoesNext (displays : List ℕ) (now : ℕ) (es : List Effect) (old : Limited) (call : Call) (eased new : Limited) : Type 0 where
  pub shown : eased.wanted.is_shown ≡ true
  pub part : EasesPart displays now 5 es old eased
  pub next : next_due now (eased_by (easings displays now part.choked.wanted) es) ≡ Some call
  pub is : LiveIs displays (answered displays call (eased_by (easings displays now part.choked.wanted) es)) new.live
  pub reported_are :
      (c : ℕ) → mask_has new.live.reported c
      ≡ (mask_has eased.live.reported c
      || is_reported_by call (reply_to (eased_by (easings displays now part.choked.wanted) es) call) c)
  pub clients : SameClients eased.live new.live
  pub wanted_is : new.wanted ≡ eased.wanted

-- Some of what is due up to now is done so, one after another: from a history and a service to these.
pub data DoesDue (displays : List ℕ) (now : ℕ) (es : List Effect) (old : Limited) : List Effect → Limited → Type 0 where
  does_none : DoesDue displays now es old es old
  does_more :
      (fs : List Effect) (mid eased new : Limited) (call : Call) → DoesDue displays now es old fs mid
      → (x : DoesNext displays now fs mid call eased new)
      → DoesDue displays now es old (answered displays call (eased_by (easings displays now x.part.choked.wanted) fs)) new

-- Everything due up to now is done so, until nothing is due after the service was eased once more. The mask has the channels
-- that were reported by then, which are no longer recorded.
pub record DoesAll (displays : List ℕ) (now : ℕ) (es : List Effect) (mask : ℕ) (old new : Limited) : Type 0 where
  pub so_far : List Effect
  pub last : Limited
  pub does : DoesDue displays now es old so_far last
  pub ends :
      GoesEased displays now so_far last
      (λ fs eased. (next_due now fs ≡ None) × (mask ≡ eased.live.reported) × LiveIs displays fs new.live
      × (new ≡ record eased { live = record eased.live { reported = 0 } }))

-- Memory runs out before: some of it is done, and then nothing, or a part of the easing.
pub record DoesPart (displays : List ℕ) (now : ℕ) (es : List Effect) (old new : Limited) : Type 0 where
  pub so_far : List Effect
  pub last : Limited
  pub does : DoesDue displays now es old so_far last
  pub ends : (new ≡ last) ⊎ EasedAlone displays now so_far last new

-- After what must be handed in, everything due is done.
pub record StepsAll (displays : List ℕ) (now : ℕ) (es : List Effect) (mask : ℕ) (old new : Limited) : Type 0 where
  pub handed : Limited
  pub hands : HandsAll displays now es old handed
  pub does : DoesAll displays now (notified displays now es old.live.pending) mask handed new

-- or some of it
pub record StepsPart (displays : List ℕ) (now : ℕ) (es : List Effect) (old new : Limited) : Type 0 where
  pub handed : Limited
  pub hands : HandsAll displays now es old handed
  pub does : DoesPart displays now (notified displays now es old.live.pending) handed new

-- Memory runs out: what must be handed in is handed in part, or some of what is due is done.
abbrev pub StepsOrNot : List ℕ → (now : ℕ) → List Effect → (old new : Limited) → Type 0
StepsOrNot displays now es old new =
    (HandedInPart displays now es old.live.pending new.live × (new.wanted ≡ old.wanted)) ⊎ StepsPart displays now es old new
