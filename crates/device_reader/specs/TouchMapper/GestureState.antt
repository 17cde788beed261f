-- What contracts see of the gestures of a device.
use Rattle.std.specs.Prelude.{ℕ, List}
use Rattle.input_types.specs.declared.pointer.Pointer.{Pointer}
use Rattle.device_reader.specs.TouchMapper.Cooking.{Cooking}

-- the device, how its positions become pixels, and the pointers that are down since the last packet
pub record GestureState : Type 0 where
  pub device : ℕ
  pub cook : Cooking
  pub last : List Pointer
