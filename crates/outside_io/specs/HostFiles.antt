-- Files and streams of the machine, as contracts see them: nothing is said of what they hold, only of what was read and written.
use Rattle.std.specs.Prelude.{ℕ, Bool, List}
use Rattle.outside_io.specs.Trace.{Reading, Writing}

-- how often the machine failed, whether a source is out, and how files were read
pub record HostState : Type 0 where
  pub faults : ℕ
  pub lent : Bool
  pub readings : List Reading

-- how often the machine failed, and how the file was read
pub record HostReading : Type 0 where
  pub faults : ℕ
  pub reading : Reading

-- how often the machine failed, and what was written
pub record HostWriting : Type 0 where
  pub faults : ℕ
  pub writing : Writing
