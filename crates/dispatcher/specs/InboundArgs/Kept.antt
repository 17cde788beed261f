-- What is kept of one device.
use Rattle.std.specs.Prelude.{ℕ, List}

-- the ids that are down as a set of bits, and the keys that are down as sets of 32 scan codes each, those of the least codes first
pub record DownSets : Type 0 where
  pub ids : ℕ
  pub keys : List ℕ
