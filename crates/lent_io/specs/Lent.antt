-- What contracts see of files that are lent, and of a sink that keeps its text.
use Rattle.std.specs.Prelude.{ℕ, Bool, List}
use Rattle.outside_io.specs.Trace.{Reading, Writing}
use Rattle.outside_io.specs.Outside.{Entry}

-- the files, whether a source is out, how often a name was not there, and how files were read
pub record LentState : Type 0 where
  pub files : List Entry
  pub lent : Bool
  pub faults : ℕ
  pub readings : List Reading

-- the bytes that are left, and how the file was read
pub record LentReading : Type 0 where
  pub left : List ℕ
  pub reading : Reading

-- a source that is lent never fails
abbrev pub no_faults : LentReading → ℕ
no_faults source = 0

-- what was written to a sink, and how often memory for it ran out
pub record TextState : Type 0 where
  pub writing : Writing
  pub faults : ℕ
