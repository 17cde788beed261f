-- The table behind a list.
use Rattle.std.specs.Prelude.{◌≡◌, ℕ, ◌-◌, ◌≤◌, List, length, drop, replicate}

-- a table of 16 places of which the first `used` are a list, and whose others all hold the blank element
pub record IsTable {A : Type 0} (nothing : A) (items : List A) (used : ℕ) : Type 0 where
  pub whole : length items ≡ 16
  pub within : used ≤ 16
  pub rest : drop used items ≡ replicate (16 - used) nothing
