use Rattle.std.proofs.Common.{◌≡◌, ◌≤◌, ℕ, false}
use Rattle.device_table.specs.Table.{is_free}
use Rattle.device_table.proofs.table.DeviceTable.first_free.Given as goal

-- none of the first numbers is free
abbrev pub invariant-loop-place : goal.invariant-loop-place
invariant-loop-place l = (d : ℕ) → 1 ≤ d → d ≤ l.place → is_free l.displays l.self l.display d ≡ false
