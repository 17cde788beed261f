-- Key layouts as C hands them in.
use Rattle.std.specs.Prelude.{◌≡◌, ℕ, Bool, true, false, List, Result, Ok, Err, if◌then◌else◌}
use Rattle.std.specs.Str.{is_utf8}
use Rattle.key_layout.specs.declared.error.LayoutError.{LayoutError}
use Rattle.key_layout.specs.declared.error.LayoutError.TheVariants as error
use Rattle.key_layout.specs.Layout.{Codes, layout_of}
use Rattle.live_input.specs.declared.limit.Limited.{Limited}
use Rattle.plain_calls.specs.Calling.{Replies, ok_of, written}
use Rattle.plain_calls.specs.Driving.{KeysAdded}
use Rattle.plain_calls.specs.Replies.{add_status}
use Rattle.plain_calls.specs.Status.{bad_layout}
use Rattle.plain_calls.specs.declared.layouts.NoLayout.{NoLayout}
use Rattle.plain_calls.specs.declared.layouts.NoLayout.TheVariants.{Line, Memory}

-- the number of the line that is refused
abbrev pub line_of : LayoutError → ℕ
line_of (error.BadLine n) = n
line_of (error.BadName n) = n
line_of (error.Twice n scan) = n
line_of error.Memory = 0

-- the keys, or the number of the line that is refused
abbrev pub by_line : Result Codes LayoutError → Result Codes ℕ
by_line (Ok codes) = Ok codes
by_line (Err e) = Err (line_of e)

-- the keys of a layout's text, or its first refused line, from 1 on; 0 if the bytes are not UTF-8 text
abbrev pub layout_from : List ℕ → Result Codes ℕ
layout_from bytes = if is_utf8 bytes then by_line (layout_of bytes) else Err 0

-- What was read is what the text says. Memory may run out at any time.
abbrev pub IsLayout : Result Codes NoLayout → Result Codes ℕ → Type 0
IsLayout (Ok codes) due = due ≡ Ok codes
IsLayout (Err (Line n)) due = due ≡ Err n
IsLayout (Err Memory) due = Unit {0}

-- The result of plugging in a device with keys, by whether memory ran out. If it did, nothing changes. Otherwise
-- either its text is not a layout, and the line is reported, or the device is plugged in.
abbrev pub AddsKeys :
    Bool → Result Codes ℕ → ℕ → (display : ℕ) → (old new : Limited) → (device device_after line line_after : ℕ) → Type 0
AddsKeys true layout status y old new device device_after line line_after =
    (new ≡ old) × ((device_after ≡ device) × (line_after ≡ line))
AddsKeys false (Err n) status y old new device device_after line line_after =
    (status ≡ bad_layout) × ((new ≡ old) × ((device_after ≡ device) × (line_after ≡ n)))
AddsKeys false (Ok codes) status y old new device device_after line line_after =
    (line_after ≡ line)
    × Replies add_status status (λ r. KeysAdded y codes old new r × (device_after ≡ written (λ d. d) (ok_of r) device))
