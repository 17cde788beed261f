-- What reading a file says.
use Rattle.std.specs.Prelude.{◌≡◌, ℕ, List, ◌++◌, length, Option}
use Rattle.std.specs.Io.KnownBytes.{Consumes, IsAtEnd}
use Rattle.outside_io.specs.Trace.{Reading, at_end}

-- More was read of a file: what it gave was taken from the front of what was left, and if its end was reported,
-- nothing is left.
pub record GivesMore (left_before left_now : Option (List ℕ)) (before now : Reading) : Type 0 where
  pub piece : List ℕ
  pub given : now.given ≡ before.given ++ piece
  pub taken : Consumes left_before left_now piece
  pub named : now.name ≡ before.name
  pub ends : now.stage ≡ at_end → IsAtEnd left_now

-- a piece of this many bytes was given, and this was done with it
pub record GivesWith (before now : Reading) (count : ℕ) (Done : List ℕ → Type 0) : Type 0 where
  pub piece : List ℕ
  pub given : now.given ≡ before.given ++ piece
  pub size : length piece ≡ count
  pub done : Done piece
