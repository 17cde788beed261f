-- A batch as contracts see it.
use Rattle.std.specs.Prelude.{ℕ, List}
use Rattle.motion_batch.specs.declared.sample.Sample.{Sample}

-- a device and successive moves of it
pub record BatchData : Type 0 where
  pub device : ℕ
  pub samples : List Sample
