-- What contracts see of the readers of a recording.
use Rattle.std.specs.Prelude.{◌≡◌, ℕ, ◌+◌, List, slice_get, Some}
use Rattle.device_reader.specs.Reading.{Reading}

-- the readers, and the moment of the newest args that they gave
pub record ReadersState : Type 0 where
  pub readers : List Reading
  pub latest : ℕ

-- the readers stand in the order of their devices' numbers, which begin at 1
abbrev pub AreNumbered : List Reading → Type 0
AreNumbered readers = (i : ℕ) (r : Reading) → slice_get readers i ≡ Some r → r.device ≡ i + 1
