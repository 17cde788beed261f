-- What the program asked for, as contracts see it.
use Rattle.std.specs.Prelude.{ℕ, Bool, List, Option}
use Rattle.live_input.specs.declared.client.Client.{Client}
use Rattle.live_input.specs.declared.windows.ClientWindow.{ClientWindow}

-- how many messages a client may leave unreceived; the windows that were last asked for, front to back; for each display
-- the client for which the focus was last requested; the channels whose clients are choked; whether the windows that are
-- shown are these, with walls in place of those of choked clients
pub record Wanted : Type 0 where
  pub most : ℕ
  pub windows : List ClientWindow
  pub requested : List (Option Client)
  pub choked : ℕ
  pub is_shown : Bool
