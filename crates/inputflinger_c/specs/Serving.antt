-- The result of a call of a live service, by what its handle has.
use Rattle.std.specs.Prelude.{◌≡◌, ℕ, List, [], replicate, Option, Some, None, is_some, if◌then◌else◌}
use Rattle.dispatch_calls.specs.declared.terms.Terms.{Terms}
use Rattle.live_input.specs.Seats.{vacant}
use Rattle.live_input.specs.Standing.{LiveIs}
use Rattle.live_input.specs.declared.limit.Limited.{Limited}
use Rattle.live_input.specs.Limit.{first_wanted}
use Rattle.plain_calls.specs.Status.{status_ok, is_free, is_taken, no_memory, out_of_range}

-- A free handle stays free, the status says so, and this is unchanged; a service changes as the call says.
abbrev pub OnService : Option Limited → ℕ → Option Limited → (unchanged : Type 0) → (Limited → Limited → Type 0) → Type 0
OnService None status new unchanged Goes = (status ≡ is_free) × ((new ≡ None) × unchanged)
OnService (Some old) status None unchanged Goes = ⊥
OnService (Some old) status (Some new) unchanged Goes = Goes old new

-- a handle is free after `free`, and the status says whether it was free before
abbrev pub LiveFrees : Option Limited → ℕ → Option Limited → Type 0
LiveFrees old status new = (status ≡ (if is_some old then status_ok else is_free)) × (new ≡ None)

-- A service at its start: it stands for no call, on these terms and displays, with no client and no device.
pub record IsNewService (terms : Terms) (displays : List ℕ) (s : Limited) : Type 0 where
  pub start : LiveIs displays [] s.live
  pub terms_are : s.live.terms ≡ terms
  pub clock : s.live.clock ≡ 0
  pub seats : s.live.seats ≡ replicate 64 vacant
  pub opened : s.live.opened ≡ 0
  pub named : s.live.reported ≡ 0
  pub devices : s.live.devices ≡ replicate 8 None
  pub pending : s.live.pending ≡ []
  pub wanted : s.wanted ≡ first_wanted 10000

-- The result of `new`: a handle that is not free keeps its service. Otherwise numbers out of range are refused, or
-- memory ran out, or the handle has a service at its start.
abbrev pub LiveOpens : Option Limited → (terms : Option Terms) → (displays : Option (List ℕ)) → ℕ → Option Limited → Type 0
LiveOpens (Some old) terms displays status new = (status ≡ is_taken) × (new ≡ Some old)
LiveOpens None None displays status new = (status ≡ out_of_range) × (new ≡ None)
LiveOpens None (Some ts) None status new = (status ≡ out_of_range) × (new ≡ None)
LiveOpens None (Some ts) (Some ds) status None = status ≡ no_memory
LiveOpens None (Some ts) (Some ds) status (Some new) = (status ≡ status_ok) × IsNewService ts ds new
