-- Worked examples of what numbers stand for.
use Rattle.std.specs.Prelude.{◌≡◌, ◌^◌, ◌+◌, [], ◌∷◌, Some, None, Err, pos}
use Rattle.std.proofs.Common.{refl}
use Rattle.key_layout.specs.declared.error.LayoutError.TheVariants.{BadName, Twice}
use Rattle.input_types.specs.declared.pointer.Pointer.{Pointer}
use Rattle.plain_calls.specs.declared.message.PlainPointer.{PlainPointer}
use Rattle.plain_calls.specs.Clients.{maybe_client}
use Rattle.plain_calls.specs.Layouts.{by_line}
use Rattle.plain_calls.specs.Numbers.{device_of, display_of, limit_of, moment_of}
use Rattle.plain_calls.specs.Plain.{pointers_from}
use Rattle.plain_calls.specs.Repeats.{repeats_of, terms_of}

-- devices are 1 to 8, displays 0 to 3
first_device : device_of 1 ≡ Some 1
first_device = refl

no_device : device_of 0 ≡ None
no_device = refl

behind_the_last : device_of 9 ≡ None
behind_the_last = refl

last_display : display_of 3 ≡ Some 3
last_display = refl

no_display : display_of 4 ≡ None
no_display = refl

-- 10^18 is the last moment, and ten minutes the longest limit
last_moment : moment_of (10 ^ 18) ≡ Some 1000000000000000000
last_moment = refl

too_late : moment_of (10 ^ 18 + 1) ≡ None
too_late = refl

longest_limit : limit_of 600000000 ≡ Some 600000000
longest_limit = refl

too_short : limit_of 999 ≡ None
too_short = refl

-- both delays of repeats are 0, or each is a millisecond to ten minutes
no_repeats : repeats_of (record { first_us = 0; next_us = 0 }) ≡ Some None
no_repeats = refl

shortest_repeats : repeats_of (record { first_us = 1000; next_us = 1000 }) ≡ Some (Some (record { first = 1000; next = 1000 }))
shortest_repeats = refl

repeated_once : repeats_of (record { first_us = 500000; next_us = 0 }) ≡ None
repeated_once = refl

at_once : repeats_of (record { first_us = 999; next_us = 50000 }) ≡ None
at_once = refl

too_slow : repeats_of (record { first_us = 500000; next_us = 600000001 }) ≡ None
too_slow = refl

usual_terms :
    terms_of 5000000 (record { first_us = 500000; next_us = 50000 })
    ≡ Some (record { limit = 5000000; repeats = Some (record { first = 500000; next = 50000 }) })
usual_terms = refl

no_limit : terms_of 999 (record { first_us = 0; next_us = 0 }) ≡ None
no_limit = refl

-- channel 0 belongs to no client
nobody : maybe_client (record { generation = 7; channel = 0 }) ≡ None
nobody = refl

somebody : maybe_client (record { generation = 7; channel = 2 }) ≡ Some (record { channel = 2; generation = 7 })
somebody = refl

-- a pointer at (5,7) with an id
abbrev plain : PlainPointer
plain = record { x = pos 5; y = pos 7; id = 3 }

abbrev read : Pointer
read = record { id = 3; at = record { x = pos 5; y = pos 7 } }

one_pointer : pointers_from 0 (plain ∷ []) ≡ Some (read ∷ [])
one_pointer = refl

-- ids do not stay
twice : pointers_from 0 (plain ∷ plain ∷ []) ≡ None
twice = refl

-- for a refused layout only the line is reported
small_letters : by_line (Err (BadName 2)) ≡ Err 2
small_letters = refl

twice_in_a_layout : by_line (Err (Twice 3 30)) ≡ Err 3
twice_in_a_layout = refl
