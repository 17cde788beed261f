-- Clients in plain numbers.
use Rattle.std.specs.Prelude.{nat_eq, Option, Some, None, if◌then◌else◌}
use Rattle.live_input.specs.declared.client.Client.{Client}
use Rattle.plain_calls.specs.declared.client.PlainClient.{PlainClient}

-- the client that two numbers stand for, which may be none that is open
abbrev pub client_of : PlainClient → Client
client_of k = record { channel = k.channel; generation = k.generation }

-- a client by its numbers
abbrev pub plain_client : Client → PlainClient
plain_client k = record { generation = k.generation; channel = k.channel }

-- no client if the channel is 0, which no client has, otherwise the one of these numbers
abbrev pub maybe_client : PlainClient → Option Client
maybe_client k = if nat_eq k.channel 0 then None else Some (client_of k)
