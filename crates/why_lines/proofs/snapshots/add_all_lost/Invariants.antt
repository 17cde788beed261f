use Rattle.std.proofs.Common.{◌≡◌, ◌∷◌, List}
use Rattle.dispatch_history.specs.Effect.{Effect}
use Rattle.dispatcher.specs.Dispatching.{IsAfter}
use Rattle.why_lines.specs.Growing.{with_lines}
use Rattle.why_lines.specs.Held.{HoldThis, IsQuiet}
use Rattle.why_lines.proofs.Held.{lines_to}
use Rattle.why_lines.proofs.snapshots.add_all_lost.Given as goal

-- the lines of the windows that are passed are added
abbrev pub invariant-loop-place : goal.invariant-loop-place
invariant-loop-place l =
    (es : List Effect) (x : Effect) → IsAfter (x ∷ es) l.dispatcher → HoldThis es l.held → IsQuiet x
    → l.text.items ≡ with_lines l.clock (lines_to x es l.place) l.initial.text.items
