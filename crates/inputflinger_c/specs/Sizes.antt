-- How many bytes the structs of the header have.
use Rattle.std.specs.Prelude.{ℕ, ◌==◌, if◌then◌else◌}

-- The size of a struct by its number, where a pointer has 8 bytes: a judge, a pointer, a message, a fault, a state, a
-- key, a live service, a client, a rectangle, a window, an axis, a panel, displays, what a run came to, the options of a
-- client, and repeats. No other number has one.
abbrev pub size_of : ℕ → ℕ
size_of n =
    if n == 0 then 16
    else if n == 1 then 12
    else if n == 2 then 248
    else if n == 3 then 32
    else if n == 4 then 36
    else if n == 5 then 4
    else if n == 6 then 16
    else if n == 7 then 16
    else if n == 8 then 16
    else if n == 9 then 56
    else if n == 10 then 8
    else if n == 11 then 24
    else if n == 12 then 8
    else if n == 13 then 24
    else if n == 14 then 16
    else if n == 15 then 16
    else 0
