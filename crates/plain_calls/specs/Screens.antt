-- Which display each device is on, as C says it.
use Rattle.std.specs.Prelude.{nat_le, ℕ, List, Option, Some, None, if◌then◌else◌}
use Rattle.std.specs.List.{list_all}
use Rattle.plain_calls.specs.declared.screens.PlainDisplays.{PlainDisplays}

-- the display of each device, starting with device 1, if each is 0 to 3
abbrev pub displays_of : PlainDisplays → Option (List ℕ)
displays_of p = if list_all (λ y. nat_le y 3) p.of_device then Some p.of_device else None
