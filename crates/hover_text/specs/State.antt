-- A run as contracts see it.
use Rattle.std.specs.Prelude.{◌≡◌, ℕ}
use Rattle.cursor_core.specs.declared.motion.MotionReader.{MotionReader}
use Rattle.cursor_core.specs.Kept.{CursorState, gone}

-- no message of any channel was released
abbrev pub IsWhole : CursorState → Type 0
IsWhole k = (c : ℕ) → gone k c ≡ 0

-- the cursor, the reader of the mouse, and how many steps were made
pub record HoverState : Type 0 where
  pub cursor : CursorState
  pub reader : MotionReader
  pub next : ℕ
