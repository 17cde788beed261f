-- The limit of unreceived messages, in terms of the service.
use Rattle.std.specs.Prelude.{◌&&◌, ℕ, Bool}
use Rattle.window_snapshot.specs.Mask.{mask_has}
use Rattle.live_input.specs.declared.client.Client.{Client}
use Rattle.live_input.specs.declared.limit.Limited.{Limited}
use Rattle.live_input.specs.Seats.{is_open}

-- the service with this limit
abbrev pub with_most : ℕ → Limited → Limited
with_most n s = record s { wanted = record s.wanted { most = n } }

-- the client is open and choked
abbrev pub is_choked : Limited → Client → Bool
is_choked s k = is_open s.live.seats k && mask_has s.wanted.choked k.channel
