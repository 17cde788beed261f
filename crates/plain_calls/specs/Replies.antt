-- The statuses of the service's replies.
use Rattle.std.specs.Prelude.{ℕ, Option, Some, None, Result, Ok, Err}
use Rattle.std.specs.declared.alloc.AllocError.{AllocError}
use Rattle.input_types.specs.declared.message.Message.{Message}
use Rattle.live_input.specs.declared.client.Client.{Client}
use Rattle.live_input.specs.declared.refused.AddRefused.{AddRefused}
use Rattle.live_input.specs.declared.refused.AddRefused.TheVariants as add
use Rattle.live_input.specs.declared.refused.ArgsRefused.{ArgsRefused}
use Rattle.live_input.specs.declared.refused.ArgsRefused.TheVariants as args
use Rattle.live_input.specs.declared.refused.CloseRefused.{CloseRefused}
use Rattle.live_input.specs.declared.refused.CloseRefused.TheVariants as close
use Rattle.live_input.specs.declared.refused.FingerRefused.{FingerRefused}
use Rattle.live_input.specs.declared.refused.FingerRefused.TheVariants as finger
use Rattle.live_input.specs.declared.refused.FinishRefused.{FinishRefused}
use Rattle.live_input.specs.declared.refused.FinishRefused.TheVariants as finish
use Rattle.live_input.specs.declared.refused.FocusRefused.{FocusRefused}
use Rattle.live_input.specs.declared.refused.FocusRefused.TheVariants as focus
use Rattle.live_input.specs.declared.refused.OpenRefused.{OpenRefused}
use Rattle.live_input.specs.declared.refused.OpenRefused.TheVariants as opening
use Rattle.live_input.specs.declared.refused.PilferRefused.{PilferRefused}
use Rattle.live_input.specs.declared.refused.PilferRefused.TheVariants as pilfer
use Rattle.live_input.specs.declared.refused.WindowRefused.{WindowRefused}
use Rattle.live_input.specs.declared.refused.WindowRefused.TheVariants as window
use Rattle.live_input.specs.declared.refused.WindowsRefused.{WindowsRefused}
use Rattle.live_input.specs.declared.refused.WindowsRefused.TheVariants as windows
use Rattle.plain_calls.specs.Calling.{answer_status}
use Rattle.plain_calls.specs.Status as status

-- the status of an opening
abbrev pub open_status : Result Client OpenRefused → ℕ
open_status (Ok client) = status.status_ok
open_status (Err opening.Full) = status.is_full
open_status (Err opening.Memory) = status.no_memory

-- the status of a closing
abbrev pub close_status : Result (Unit {0}) CloseRefused → ℕ
close_status (Ok done) = status.status_ok
close_status (Err close.NotOpen) = status.not_open
close_status (Err close.Memory) = status.no_memory

-- the status of windows that are handed in
abbrev pub windows_status : Result (Unit {0}) WindowsRefused → ℕ
windows_status (Ok done) = status.status_ok
windows_status (Err (windows.NotOpen place)) = status.not_open
windows_status (Err windows.TooMany) = status.too_many
windows_status (Err (windows.Twice channel)) = status.is_twice
windows_status (Err windows.Memory) = status.no_memory

-- which window or which channel a refusal of windows reports
abbrev pub named_by : Result (Unit {0}) WindowsRefused → Option ℕ
named_by (Err (windows.NotOpen place)) = Some place
named_by (Err (windows.Twice channel)) = Some channel
named_by reply = None

-- the status of one window that is handed in
abbrev pub window_status : Result (Unit {0}) WindowRefused → ℕ
window_status (Ok done) = status.status_ok
window_status (Err window.NotOpen) = status.not_open
window_status (Err window.NotShown) = status.not_shown
window_status (Err window.Memory) = status.no_memory

-- the status of a focus request
abbrev pub focus_status : Result (Unit {0}) FocusRefused → ℕ
focus_status (Ok done) = status.status_ok
focus_status (Err focus.NotOpen) = status.not_open
focus_status (Err focus.Memory) = status.no_memory

-- the status of finishing a message
abbrev pub finish_status : Result (Unit {0}) FinishRefused → ℕ
finish_status (Ok done) = status.status_ok
finish_status (Err finish.NotOpen) = status.not_open
finish_status (Err finish.UnknownSeq) = status.unknown_seq
finish_status (Err finish.Memory) = status.no_memory

-- the status of a pilfer
abbrev pub pilfer_status : Result (Unit {0}) PilferRefused → ℕ
pilfer_status (Ok done) = status.status_ok
pilfer_status (Err pilfer.NotOpen) = status.not_open
pilfer_status (Err pilfer.NotSpy) = status.not_spy
pilfer_status (Err pilfer.NothingHeld) = status.nothing_held
pilfer_status (Err pilfer.Memory) = status.no_memory

-- the status of a device that is plugged in
abbrev pub add_status : Result ℕ AddRefused → ℕ
add_status (Ok device) = status.status_ok
add_status (Err add.TooMany) = status.too_many
add_status (Err add.BadSlots) = status.bad_slots

-- the status of what a device delivered, or of its removal
abbrev pub args_status : Result (Unit {0}) ArgsRefused → ℕ
args_status (Ok done) = status.status_ok
args_status (Err args.NoDevice) = status.no_device
args_status (Err args.Inconsistent) = status.is_inconsistent
args_status (Err args.Memory) = status.no_memory
args_status (Err args.Waits) = status.it_waits

-- the status of what a finger does
abbrev pub finger_status : Result (Unit {0}) FingerRefused → ℕ
finger_status (Ok done) = status.status_ok
finger_status (Err finger.IsDown) = status.is_down
finger_status (Err finger.NotDown) = status.not_down
finger_status (Err finger.TooMany) = status.many_fingers
finger_status (Err (finger.Device refused)) = args_status (Err refused)

-- the status of the next message
abbrev pub next_status : Result (Option Message) AllocError → ℕ
next_status (Ok message) = answer_status message
next_status (Err error) = status.no_memory

-- the message of a reply, if there is one
abbrev pub message_in : Result (Option Message) AllocError → Option Message
message_in (Ok message) = message
message_in (Err error) = None

-- the status of what is due up to a time
abbrev pub advance_status : Result ℕ AllocError → ℕ
advance_status (Ok mask) = status.status_ok
advance_status (Err error) = status.no_memory

-- the status of making room
abbrev pub reserve_status : Result (Unit {0}) AllocError → ℕ
reserve_status (Ok done) = status.status_ok
reserve_status (Err error) = status.no_memory
