-- The moments that calls carry.
use Rattle.std.specs.Prelude.{ℕ}
use Rattle.dispatch_calls.specs.declared.call.Call.{Call}
use Rattle.dispatch_calls.specs.declared.call.Call.TheVariants.{Open, Windows, FocusOn, Notify, Pump, Tick, Receive, Finish, Pilfer, Remove}

-- the moment that a call carries, 0 if it has none
abbrev pub moment_of : Call → ℕ
moment_of (Open terms) = 0
moment_of (Windows now snapshot) = now
moment_of (FocusOn now display channel keys) = now
moment_of (Notify now args) = now
moment_of (Pump now) = now
moment_of (Tick now) = now
moment_of (Receive channel) = 0
moment_of (Finish now channel seq) = now
moment_of (Pilfer now channel device) = now
moment_of (Remove now channel) = now
