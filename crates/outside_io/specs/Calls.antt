-- What a call leaves of the count of faults.
use Rattle.std.specs.Prelude.{ℕ, Bool, if◌then◌else◌}
use Rattle.outside_io.specs.Outside.{raised}

-- a call that failed counts one fault, and another none
abbrev pub faults_after : Bool → ℕ → ℕ
faults_after failed faults = if failed then raised faults 1 else faults
