-- Sums without the limits of a type.
use Rattle.std.specs.Prelude.{ℕ, ℤ, pos, negsuc, ◌+ℤ◌, ◌≤ℤ◌, if◌then◌else◌, List, [], ◌∷◌}
use Rattle.std.specs.List.{AllByRecursion}
use Rattle.raw_events.specs.declared.event.RawEvent.{RawEvent}
use Rattle.cursor_core.specs.Packets.{is_rel}

-- the sum of the values of a code, however great
abbrev pub total_of : ℕ → List RawEvent → ℤ
total_of code [] = pos 0
total_of code (e ∷ es) = if is_rel code e then total_of code es +ℤ e.value else total_of code es

-- a number that fits 32 bits, as the value of a line does
pub record IsI32 (z : ℤ) : Type 0 where
  pub high : z ≤ℤ pos 2147483647
  pub low : negsuc 2147483647 ≤ℤ z

-- each of these events has such a value
abbrev pub AreI32 : List RawEvent → Type 0
AreI32 es = AllByRecursion (λ e. IsI32 e.value) es
