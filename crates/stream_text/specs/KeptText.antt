-- The text of a motion's pointers, and of a Move with them, that is kept from one line to the next.
use Rattle.std.specs.Prelude.{◌≡◌, ℕ, ◌+◌, ◌*◌, ◌≤◌, List, [], ◌∷◌, ◌++◌, length, drop}
use Rattle.input_types.specs.declared.pointer.Pointer.{Pointer}
use Rattle.dispatcher.specs.InputChannel.Moves.{move_of}
use Rattle.stream_text.specs.Spelling.{motion, pointers}

-- the text of these pointers, and a newline, stand at the end of a line, from the place `at` on
abbrev pub Holds : List ℕ → List Pointer → ℕ → Type 0
Holds line list at = (length list ≤ 16) × (at ≤ 1279) × (1279 ≤ at + 66 * length list) × (drop at line ≡ pointers list ++ 10 ∷ [])

-- where the device is not 0: its Move with these flags and pointers, and a newline, stand at the end of a line, from the place `front` on,
-- which is from `least` to `at`
abbrev pub Moves : ℕ → List ℕ → (device flags : ℕ) → List Pointer → ℕ → ℕ → Type 0
Moves least line device flags list at front =
    1 ≤ device → (least ≤ front) × (front ≤ at) × (drop front line ≡ motion (move_of device flags list) ++ 10 ∷ [])
