use Rattle.std.proofs.Common.{◌≡◌, ◌-◌, ◌++◌, ℕ, List, drop, length}
use Rattle.cursor_core.specs.declared.call.CursorCall.{CursorCall as Call}
use Rattle.cursor_core.specs.Calls.{Screen}
use Rattle.cursor_core.specs.Cursor.{CursorStandsFor}
use Rattle.hover_text.specs.Running.{HasMade}
use Rattle.hover_text.specs.Schedule.{step_calls}
use Rattle.hover_text.proofs.hover.Hover.make_rest.Given as goal

-- what was made, and then the steps that are left, are all
abbrev pub invariant-steps : goal.invariant-steps
invariant-steps l =
    (d : Screen) (all : List Call) (t : ℕ) → HasMade d l.steps all t l.initial.self
    → (made : List Call) × CursorStandsFor d made l.self.cursor × (step_calls (drop l.self.next l.steps) ++ made ≡ all)

abbrev pub decreases-steps : goal.decreases-steps
decreases-steps l = length l.steps - l.self.next
