-- Kinds of calls.
use Rattle.std.specs.Prelude.{Bool, true, false}
use Rattle.dispatch_calls.specs.declared.call.Call.{Call}
use Rattle.dispatch_calls.specs.declared.call.Call.TheVariants.{Open, Receive, Finish}

-- the owner of a channel receives
abbrev pub is_receiving : Call → Bool
is_receiving (Receive channel) = true
is_receiving call = false

-- a channel is opened
abbrev pub is_opening : Call → Bool
is_opening (Open terms) = true
is_opening call = false

-- the owner of a channel finishes a message
abbrev pub is_finishing : Call → Bool
is_finishing (Finish now channel seq) = true
is_finishing call = false
