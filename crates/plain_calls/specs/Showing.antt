-- Windows and focus requests of clients, in terms of the service.
use Rattle.std.specs.Prelude.{◌≡◌, ◌⊎◌, ℕ, false, List, Option, Result, Err}
use Rattle.dispatch_history.specs.Effect.{Effect}
use Rattle.live_input.specs.declared.client.Client.{Client}
use Rattle.live_input.specs.declared.refused.FocusRefused.{FocusRefused}
use Rattle.live_input.specs.declared.refused.FocusRefused.TheVariants.{NotOpen}
use Rattle.live_input.specs.declared.refused.WindowRefused.{WindowRefused}
use Rattle.live_input.specs.declared.refused.WindowsRefused.{WindowsRefused}
use Rattle.live_input.specs.declared.windows.ClientWindow.{ClientWindow}
use Rattle.live_input.specs.declared.windows.WindowInfo.{WindowInfo}
use Rattle.live_input.specs.Answers.{SameClients}
use Rattle.live_input.specs.Easing.{KeepsReported}
use Rattle.live_input.specs.LimitedCalls.{AsksEased, PutsEased, ReportsChoked, ShowsEased}
use Rattle.live_input.specs.Showing.{may_ask}
use Rattle.live_input.specs.Standing.{LiveIs}
use Rattle.live_input.specs.declared.limit.Limited.{Limited}
use Rattle.live_input.specs.State.{latest}
use Rattle.plain_calls.specs.Calling.{Reads, Replies, written}
use Rattle.plain_calls.specs.Replies.{window_status, windows_status, named_by}
use Rattle.plain_calls.specs.Status.{no_memory}

-- the result of showing windows
pub record Shown (now : ℕ) (windows : List ClientWindow) (old new : Limited) (r : Result (Unit {0}) WindowsRefused) : Type 0 where
  pub after : (ds : List ℕ) (es : List Effect) → LiveIs ds es old.live → ShowsEased ds (latest now old.live) windows es r old new
  pub clients : SameClients old.live new.live
  pub named : KeepsReported old.live.reported new.live.reported
  pub reports : (ds : List ℕ) (es : List Effect) → LiveIs ds es old.live → ReportsChoked old new

-- nothing changes: neither the service nor the number that a refusal reports
abbrev pub NothingShown : (old new : Limited) → (before after : ℕ) → Type 0
NothingShown old new before after = (new ≡ old) × (after ≡ before)

-- The result of windows in plain numbers. Memory may run out as they are read, and then nothing changes. Otherwise either a
-- number is out of its range, or the windows are shown or refused, and a refusal reports what it is about.
abbrev pub ShowsRead : Option (List ClientWindow) → ℕ → (now : ℕ) → (old new : Limited) → (before after : ℕ) → Type 0
ShowsRead windows status now old new before after =
    ((status ≡ no_memory) × NothingShown old new before after)
    ⊎ Reads windows status (NothingShown old new before after)
    (λ ws. Replies windows_status status (λ r. Shown now ws old new r × (after ≡ written (λ n. n) (named_by r) before)))

-- the result of replacing the window of a client
pub record Replaced (now : ℕ) (client : Client) (info : WindowInfo) (old new : Limited) (r : Result (Unit {0}) WindowRefused) : Type 0 where
  pub after : (ds : List ℕ) (es : List Effect) → LiveIs ds es old.live → PutsEased ds (latest now old.live) client info es r old new
  pub clients : SameClients old.live new.live
  pub named : KeepsReported old.live.reported new.live.reported
  pub reports : (ds : List ℕ) (es : List Effect) → LiveIs ds es old.live → ReportsChoked old new

-- The result of one window in plain numbers. Memory may run out as it is read, and then nothing changes. Otherwise either a
-- number is out of its range, or the window of the client is replaced or refused.
abbrev pub ReplacesRead : Client → Option WindowInfo → ℕ → (now : ℕ) → (old new : Limited) → Type 0
ReplacesRead client info status now old new =
    ((status ≡ no_memory) × (new ≡ old))
    ⊎ Reads info status (new ≡ old) (λ i. Replies window_status status (Replaced now client i old new))

-- the result of a focus request
pub record Asked (now display : ℕ) (client : Option Client) (old new : Limited) (r : Result (Unit {0}) FocusRefused) : Type 0 where
  pub after : (ds : List ℕ) (es : List Effect) → LiveIs ds es old.live → AsksEased ds (latest now old.live) display client es r old new
  pub stale : may_ask old.live.seats client ≡ false → (r ≡ Err NotOpen) × (new ≡ old)
  pub clients : SameClients old.live new.live
  pub named : KeepsReported old.live.reported new.live.reported
  pub reports : (ds : List ℕ) (es : List Effect) → LiveIs ds es old.live → ReportsChoked old new
