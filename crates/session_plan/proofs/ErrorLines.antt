-- The line of an error is that of the fault that was read.
use Rattle.std.proofs.Common.{◌≡◌, false, Result, Err, ap}
use Rattle.key_layout.specs.declared.error.LayoutError.TheVariants as layout
use Rattle.session_plan.specs.declared.error.PlanError.{PlanError}
use Rattle.session_plan.specs.declared.error.PlanError.TheVariants.{NotToml, Missing, Wrong, UnknownName, OutOfRange, BadLayout, Memory}
use Rattle.session_plan.specs.ErrorLine.{error_line, is_memory, line_of}
use Rattle.session_plan.specs.Fault.{Fault}
use Rattle.session_plan.specs.Gives.{Fails}

same_line : (Y : Type 0) (f g : Fault) → ◌≡◌ {A = Result Y Fault} (Err f) (Err g) → line_of g ≡ line_of f
same_line Y f g h = let e : g ≡ f = cc in ap line_of e

pub line_is : (Y : Type 0) (e : PlanError) (f : Fault) → is_memory e ≡ false → Fails {Y = Y} e (Err f) → error_line e ≡ line_of f
line_is Y NotToml f m h = same_line Y f _ h
line_is Y (Missing key) f m h = same_line Y f _ h
line_is Y (Wrong key) f m h = same_line Y f _ h
line_is Y (UnknownName key) f m h = same_line Y f _ h
line_is Y (OutOfRange key value) f m h = same_line Y f _ h
line_is Y (BadLayout device (layout.BadLine line)) f m h = same_line Y f _ h
line_is Y (BadLayout device (layout.BadName line)) f m h = same_line Y f _ h
line_is Y (BadLayout device (layout.Twice line scan)) f m h = same_line Y f _ h
line_is Y (BadLayout device layout.Memory) f m h = absurd h
line_is Y Memory f m h = cc
