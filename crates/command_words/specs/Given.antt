-- An option as it is given.
use Rattle.std.specs.Prelude.{ℕ, List}

-- the name of an option, hyphens included, and its value
pub record Given : Type 0 where
  pub name : List ℕ
  pub value : List ℕ
