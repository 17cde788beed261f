use Rattle.std.proofs.Common.{◌≡◌, ◌≤◌, ◌-◌, ℕ, List, length}
use Rattle.cursor_core.specs.declared.call.CursorCall.{CursorCall as Call}
use Rattle.cursor_core.specs.Calls.{Screen}
use Rattle.hover_text.specs.Running.{HasMade}
use Rattle.hover_text.proofs.hover.Hover.steps_up_to.Given as goal

-- what was made is not later than the moment
abbrev pub invariant-steps : goal.invariant-steps
invariant-steps l =
    ((d : Screen) (all : List Call) (t : ℕ) → HasMade d l.steps all t l.initial.self → t ≤ l.moment → HasMade d l.steps all l.moment l.self)
    × (l.self.reader ≡ l.initial.self.reader)

abbrev pub decreases-steps : goal.decreases-steps
decreases-steps l = length l.steps - l.self.next
