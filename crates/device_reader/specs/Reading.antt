-- What contracts see of the readers of devices.
use Rattle.std.specs.Prelude.{ℕ, Bool}
use Rattle.device_reader.specs.declared.reader.Kind.{Kind}

-- the device's number, whether what comes is passed over, and what is known of it by its kind
pub record Reading : Type 0 where
  pub device : ℕ
  pub void : Bool
  pub kind : Kind
