-- The line that says why a session is refused.
use Rattle.std.specs.Prelude.{ℕ, codes, Bool, true, false, List, [], ◌++◌, string_bytes}
use Rattle.std.specs.Fmt.{decimal, signed_decimal}
use Rattle.key_layout.specs.declared.error.LayoutError.{LayoutError}
use Rattle.key_layout.specs.declared.error.LayoutError.TheVariants as layout
use Rattle.session_plan.specs.declared.error.PlanError.{PlanError}
use Rattle.session_plan.specs.declared.error.PlanError.TheVariants.{NotToml, Missing, Wrong, UnknownName, OutOfRange, BadLayout, Memory}
use Rattle.session_plan.specs.Fault.{Fault, not_toml, missing, wrong, unknown_name, out_of_range, bad_layout}

-- the number of the line that a layout is refused for; out of memory has none
abbrev pub refused_line : LayoutError → ℕ
refused_line (layout.BadLine line) = line
refused_line (layout.BadName line) = line
refused_line (layout.Twice line scan) = line
refused_line layout.Memory = 0

-- the line of a device whose layout is refused
abbrev pub layout_line : ℕ → LayoutError → List ℕ
layout_line device error = codes "session: BadLayout " ++ (decimal device ++ (codes " " ++ decimal (refused_line error)))

-- the line of a refusal, without a newline at its end
abbrev pub line_of : Fault → List ℕ
line_of not_toml = codes "session: NotToml"
line_of (missing key) = codes "session: Missing " ++ key
line_of (wrong key) = codes "session: Wrong " ++ key
line_of (unknown_name key) = codes "session: UnknownName " ++ key
line_of (out_of_range key value) = codes "session: OutOfRange " ++ (key ++ (codes " " ++ signed_decimal value))
line_of (bad_layout device error) = layout_line device error

-- the line of an error; out of memory is no refusal and has an empty one
abbrev pub error_line : PlanError → List ℕ
error_line NotToml = codes "session: NotToml"
error_line (Missing key) = codes "session: Missing " ++ string_bytes key
error_line (Wrong key) = codes "session: Wrong " ++ string_bytes key
error_line (UnknownName key) = codes "session: UnknownName " ++ string_bytes key
error_line (OutOfRange key value) = codes "session: OutOfRange " ++ (string_bytes key ++ (codes " " ++ signed_decimal value))
error_line (BadLayout device error) = layout_line device error
error_line Memory = []

-- whether memory ran out
abbrev pub is_memory : PlanError → Bool
is_memory Memory = true
is_memory _ = false
