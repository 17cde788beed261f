-- What a reader answers, beside what the definitions give.
use Rattle.std.specs.Prelude.{◌≡◌, Result, Ok, Err, string_bytes}
use Rattle.key_layout.specs.declared.error.LayoutError.TheVariants as layout
use Rattle.session_plan.specs.declared.error.PlanError.{PlanError}
use Rattle.session_plan.specs.declared.error.PlanError.TheVariants.{NotToml, Missing, Wrong, UnknownName, OutOfRange, BadLayout, Memory}
use Rattle.session_plan.specs.Fault.{Fault, not_toml, missing, wrong, unknown_name, out_of_range, bad_layout}

-- the error is the fault that was read; out of memory may come at any time, and is never a layout's error
abbrev pub Fails : {Y : Type 0} → PlanError → Result Y Fault → Type 0
Fails Memory read = Unit {0}
Fails NotToml read = read ≡ Err not_toml
Fails (Missing key) read = read ≡ Err (missing (string_bytes key))
Fails (Wrong key) read = read ≡ Err (wrong (string_bytes key))
Fails (UnknownName key) read = read ≡ Err (unknown_name (string_bytes key))
Fails (OutOfRange key value) read = read ≡ Err (out_of_range (string_bytes key) value)
Fails (BadLayout device layout.Memory) read = ⊥
Fails (BadLayout device error) read = read ≡ Err (bad_layout device error)

-- what was answered, seen by view, is what was read
abbrev pub Gives : {X Y : Type 0} → (X → Y) → Result X PlanError → Result Y Fault → Type 0
Gives view (Ok x) read = read ≡ Ok (view x)
Gives view (Err e) read = Fails e read
