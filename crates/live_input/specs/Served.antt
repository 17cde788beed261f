-- How many messages a service with a limit keeps for a client, whatever was called since it was made.
use Rattle.std.specs.Prelude.{ℕ, ◌≡◌, ◌≤◌, ◌<◌, ◌+◌, ◌*◌, suc, true, false, List, [], ◌∷◌, length, take, Option, Ok}
use Rattle.window_snapshot.specs.Mask.{mask_has}
use Rattle.window_snapshot.specs.Named.{is_named}
use Rattle.dispatch_calls.specs.declared.call.Call.{Call}
use Rattle.dispatch_history.specs.Effect.{Effect, past_of}
use Rattle.dispatch_history.specs.History.{snapshot}
use Rattle.dispatch_history.specs.Keys.{keys}
use Rattle.dispatch_history.specs.Legal.{answered}
use Rattle.dispatch_history.specs.Reply.{reply_to}
use Rattle.dispatcher.specs.DispatchTables.Silent.{is_silent}
use Rattle.live_input.specs.declared.client.Client.{Client}
use Rattle.live_input.specs.declared.limit.Limited.{Limited}
use Rattle.live_input.specs.declared.windows.ClientWindow.{ClientWindow}
use Rattle.live_input.specs.Easing.{EasesPart}
use Rattle.live_input.specs.Limit.{easings, eased_by, unreceived}
use Rattle.live_input.specs.LimitedCalls.{AsksEased, ShowsAll}
use Rattle.live_input.specs.LimitLaws.{AllFew, NoneShows}
use Rattle.live_input.specs.Standing.{IsDone, LiveIs}
use Rattle.live_input.specs.Stepwise.{DoesDue}

-- the same clients are choked by the same limit, and the walls are known to be shown if they were
pub record SameLimit (old new : Limited) : Type 0 where
  pub choked_is : new.wanted.choked ≡ old.wanted.choked
  pub shown_is : new.wanted.is_shown ≡ old.wanted.is_shown
  pub most_is : new.wanted.most ≡ old.wanted.most

-- The limit is another one, or clients left that had received and finished everything: no other client is released by that.
pub record Leaves (displays : List ℕ) (most : ℕ) (es : List Effect) (old new : Limited) : Type 0 where
  pub is : LiveIs displays es new.live
  pub limit : new.wanted.most ≤ most
  pub fewer : (c : ℕ) → mask_has new.wanted.choked c ≡ true → mask_has old.wanted.choked c ≡ true
  pub left : (c : ℕ) → mask_has old.wanted.choked c ≡ true → mask_has new.wanted.choked c ≡ false → IsDone es c
  pub shown : new.wanted.is_shown ≡ true → old.wanted.is_shown ≡ true

-- the call shows no window of a choked client that is not shown
abbrev pub KeepsHidden : Call → List Effect → Limited → Type 0
KeepsHidden call es s =
    (c : ℕ) → mask_has s.wanted.choked c ≡ true → is_named (snapshot (past_of es)) c ≡ false → NoneShows c (call ∷ [])

-- The histories and services to which calls lead from `new` on, where no limit is above the most. Each easing makes at most
-- five calls of the dispatcher, and before the next one there are at most n more that may send something; so many were made
-- since. An easing that could show no windows makes none.
pub data Served (displays : List ℕ) (most n : ℕ) : (made : ℕ) → List Effect → Limited → Type 0 where
  starts : (s : Limited) → LiveIs displays [] s.live → s.wanted.choked ≡ 0 → s.wanted.most ≤ most → Served displays most n 0 [] s
  eases :
      (made : ℕ) (es : List Effect) (old new : Limited) (now j : ℕ) → Served displays most n made es old
      → (x : EasesPart displays now (suc j) es old new)
      → Served displays most n 5 (eased_by (take (suc j) (easings displays now x.choked.wanted)) es) new
  waits :
      (made : ℕ) (es : List Effect) (old new : Limited) (now : ℕ) → Served displays most n made es old
      → EasesPart displays now 0 es old new → Served displays most n made es new
  sends :
      (made : ℕ) (es : List Effect) (old new : Limited) (call : Call) → Served displays most n made es old → made < n + 5
      → LiveIs displays (answered displays call es) new.live → SameLimit old new → KeepsHidden call es old
      → Served displays most n (suc made) (answered displays call es) new
  rests :
      (made : ℕ) (es : List Effect) (old new : Limited) (call : Call) → Served displays most n made es old
      → LiveIs displays (answered displays call es) new.live → SameLimit old new
      → ((c : ℕ) → is_silent call (reply_to es call) c ≡ true) → Served displays most n made (answered displays call es) new
  leaves :
      (made : ℕ) (es : List Effect) (old new : Limited) → Served displays most n made es old
      → Leaves displays most es old new → Served displays most n made es new

-- at no time more than k keys were down in the window of a channel
abbrev pub KeysFew : (k : ℕ) → List Effect → (channel : ℕ) → Type 0
KeysFew k [] c = Unit {0}
KeysFew k (x ∷ es) c = (length (keys (x ∷ es) c) ≤ k) × KeysFew k es c

-- A client never has more unreceived messages than the greatest limit, the most keys that were down in its window, and 131 a
-- call of the dispatcher: for those of one easing, those before the next one, and the call that hides its window.
abbrev pub ServedLaw : Type 0
ServedLaw =
    (displays : List ℕ) (most n made k c : ℕ) (es : List Effect) (s : Limited)
    → 1 ≤ c → Served displays most n made es s → AllFew es → KeysFew k es c
    → unreceived es c ≤ most + k + 131 * (n + 6)

-- Everything that `advance` does one after another stays within one call behind each easing,
abbrev pub StepsServedLaw : Type 0
StepsServedLaw =
    (displays : List ℕ) (most n made now : ℕ) (es fs : List Effect) (old new : Limited)
    → 1 ≤ n → Served displays most n made es old → DoesDue displays now es old fs new
    → (after : ℕ) × Served displays most n after fs new

-- and so do windows that are shown,
abbrev pub ShowsServedLaw : Type 0
ShowsServedLaw =
    (displays : List ℕ) (most n made now : ℕ) (ws : List ClientWindow) (es : List Effect) (old new : Limited)
    → 1 ≤ n → Served displays most n made es old → ShowsAll displays now ws es old new
    → (fs : List Effect) × Served displays most n 6 fs new

-- and a request for the focus.
abbrev pub AsksServedLaw : Type 0
AsksServedLaw =
    (displays : List ℕ) (most n made now y : ℕ) (client : Option Client) (es : List Effect) (old new : Limited)
    → 1 ≤ n → Served displays most n made es old → AsksEased displays now y client es (Ok tt) old new
    → (fs : List Effect) × Served displays most n 6 fs new
