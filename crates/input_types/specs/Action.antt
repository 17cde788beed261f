-- The numbers of motion actions.
use Rattle.std.specs.Prelude.{ℕ}
use Rattle.input_types.specs.declared.motion.MotionAction.{MotionAction}
use Rattle.input_types.specs.declared.motion.MotionAction.TheVariants.{Down, Up, Move, Cancel, Outside, PointerDown, PointerUp}

-- the number of an action, as MotionEvent's ACTION_DOWN and its kin
abbrev pub action_number : MotionAction → ℕ
action_number Down = 0
action_number Up = 1
action_number Move = 2
action_number Cancel = 3
action_number Outside = 4
action_number PointerDown = 5
action_number PointerUp = 6
