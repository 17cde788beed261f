-- Which client is open on which channel.
use Rattle.std.specs.Prelude.{ℕ, ◌≡◌, ◌≤◌, ◌-◌, ◌+◌, min, ◌^◌, Bool, true, false, ◌==◌, ◌&&◌, not, is_some, List, slice_index_or, slice_set, Option, Some, None, option_map, if◌then◌else◌}
use Rattle.std.specs.List.{list_all, position}
use Rattle.window_snapshot.specs.Mask.{is_channel}
use Rattle.live_input.specs.declared.client.Client.{Client}
use Rattle.live_input.specs.declared.client.Seat.{Seat}
use Rattle.live_input.specs.declared.options.Options.{Options}
use Rattle.live_input.specs.Options.{no_options}

-- a channel on which no client is open, and which had so many messages before the last one that was
abbrev pub left_vacant : (before : ℕ) → Seat
left_vacant before = record { holder = None; before = before; options = no_options }

-- a channel on which no client was ever open
abbrev pub vacant : Seat
vacant = left_vacant 0

-- a channel on which the client of a generation is open, opened with these options after so many messages of the channel
abbrev pub taken_by : (generation before : ℕ) → Options → Seat
taken_by generation before options = record { holder = Some generation; before = before; options = options }

-- the seat of a channel; channels have the numbers from 1
abbrev pub seat_of : List Seat → ℕ → Seat
seat_of seats c = slice_index_or seats (c - 1) vacant

-- a client is open on it
abbrev pub is_held : Seat → Bool
is_held s = is_some s.holder

-- a client is open on a channel
abbrev pub IsHeld : ℕ → List Seat → Type 0
IsHeld c seats = (1 ≤ c) × (c ≤ 64) × (is_held (seat_of seats c) ≡ true)

-- it is of this generation
abbrev pub is_of : ℕ → Option ℕ → Bool
is_of generation None = false
is_of generation (Some held) = held == generation

-- a client is open: its channel is held by its generation
abbrev pub is_open : List Seat → Client → Bool
is_open seats k = is_channel k.channel && is_of k.generation (seat_of seats k.channel).holder

-- all channels are held
abbrev pub is_full : List Seat → Bool
is_full seats = list_all is_held seats

-- the first channel that no client holds, if there is one
abbrev pub first_vacant : List Seat → Option ℕ
first_vacant seats = option_map (λ i. i + 1) (position (λ s. not (is_held s)) seats)

-- the seats with that of a channel changed
abbrev pub with_seat : ℕ → Seat → List Seat → List Seat
with_seat c s seats = slice_set seats (c - 1) s

-- the client of this generation on a channel
abbrev pub client_of : ℕ → Option ℕ → Option Client
client_of c None = None
client_of c (Some generation) = Some (record { channel = c; generation = generation })

-- the client that is open on a channel, if one is
abbrev pub client_at : List Seat → ℕ → Option Client
client_at seats c = client_of c (seat_of seats c).holder

-- the number in its channel of a message that has this number for its client: those before the client are not counted for it
abbrev pub number_of : Seat → ℕ → ℕ
number_of s seq = min (s.before + seq) (2 ^ 64 - 1)

-- the user data that an open client was opened with
abbrev pub user_data_of : List Seat → Client → Option ℕ
user_data_of seats k = if is_open seats k then Some (seat_of seats k.channel).options.user_data else None
