-- When held keys are repeated, in plain numbers.
use Rattle.std.specs.Prelude.{ℕ, nat_eq, nat_le, ◌&&◌, Bool, Option, Some, None, if◌then◌else◌}
use Rattle.std.specs.Option.{option_and_then, option_map}
use Rattle.key_repeat.specs.declared.delays.Repeats.{Repeats}
use Rattle.dispatch_calls.specs.declared.terms.Terms.{Terms}
use Rattle.plain_calls.specs.declared.repeats.PlainRepeats.{PlainRepeats}
use Rattle.plain_calls.specs.Numbers.{limit_of}

-- a delay in microseconds: a millisecond to ten minutes
abbrev pub is_delay : ℕ → Bool
is_delay us = nat_le 1000 us && nat_le us 600000000

-- the repeats that the numbers stand for: none if both are 0, and otherwise both are delays
abbrev pub repeats_of : PlainRepeats → Option (Option Repeats)
repeats_of p =
    if nat_eq p.first_us 0 && nat_eq p.next_us 0 then Some None
    else if is_delay p.first_us && is_delay p.next_us then Some (Some (record { first = p.first_us; next = p.next_us }))
    else None

-- what each channel is opened with: a limit, and when held keys are repeated
abbrev pub terms_of : (limit_us : ℕ) → PlainRepeats → Option Terms
terms_of us p = option_and_then (λ limit. option_map (λ repeats. record { limit = limit; repeats = repeats }) (repeats_of p)) (limit_of us)
