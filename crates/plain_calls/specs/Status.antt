-- The statuses of the calls.
use Rattle.std.specs.Prelude.{ℕ}

-- the call succeeded
abbrev pub status_ok : ℕ
status_ok = 0

-- the handle is free
abbrev pub is_free : ℕ
is_free = 1

-- the handle is not free
abbrev pub is_taken : ℕ
is_taken = 2

-- out of memory
abbrev pub no_memory : ℕ
no_memory = 3

-- a number is out of its range
abbrev pub out_of_range : ℕ
out_of_range = 4

-- the message was not allowed when it came
abbrev pub is_broken : ℕ
is_broken = 5

-- there is no room for the whole result
abbrev pub no_room : ℕ
no_room = 6

-- the client is not open
abbrev pub not_open : ℕ
not_open = 8

-- 64 clients are open
abbrev pub is_full : ℕ
is_full = 9

-- there is nothing to return
abbrev pub is_nothing : ℕ
is_nothing = 10

-- the client did not receive the message, or finished it already
abbrev pub unknown_seq : ℕ
unknown_seq = 11

-- no spy of the client is among the windows shown
abbrev pub not_spy : ℕ
not_spy = 12

-- the spy holds no pointer of the device
abbrev pub nothing_held : ℕ
nothing_held = 13

-- the device is not plugged in
abbrev pub no_device : ℕ
no_device = 14

-- some args do not fit what their device did before
abbrev pub is_inconsistent : ℕ
is_inconsistent = 15

-- args wait because memory ran out
abbrev pub it_waits : ℕ
it_waits = 16

-- more windows than 64, or no device number is free
abbrev pub too_many : ℕ
too_many = 17

-- a client has two windows
abbrev pub is_twice : ℕ
is_twice = 18

-- a touch device has 1 to 16 slots
abbrev pub bad_slots : ℕ
bad_slots = 19

-- the text is not a key layout
abbrev pub bad_layout : ℕ
bad_layout = 20

-- the words are those of a command that starts threads
abbrev pub no_threads : ℕ
no_threads = 21

-- the client has no window now
abbrev pub not_shown : ℕ
not_shown = 22

-- a finger with this touch id is down on the panel
abbrev pub is_down : ℕ
is_down = 23

-- no finger with this touch id is down on the panel
abbrev pub not_down : ℕ
not_down = 24

-- as many fingers as the panel has slots are down on it
abbrev pub many_fingers : ℕ
many_fingers = 25
