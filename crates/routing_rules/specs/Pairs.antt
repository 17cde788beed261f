-- Who holds what, as a list of pairs. Windows, devices and pointer ids are plain numbers here.
use Rattle.std.specs.Prelude.{ℕ, Bool, ◌==◌, ◌&&◌, List}
use Rattle.std.specs.List.{list_any}

-- a window that holds the pointer with this id of the device
pub record Pair : Type 0 where
  pub window : ℕ
  pub device : ℕ
  pub id : ℕ

-- the list contains the pair of this window, device and id
abbrev pub has : List Pair → ℕ → ℕ → ℕ → Bool
has qs w d i = list_any (λ q. q.window == w && q.device == d && q.id == i) qs

-- the list contains some pair of this window and device
abbrev pub has_any : List Pair → ℕ → ℕ → Bool
has_any qs w d = list_any (λ q. q.window == w && q.device == d) qs
