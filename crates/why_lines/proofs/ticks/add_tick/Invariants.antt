use Rattle.std.proofs.Common.{◌≡◌, ℕ, true, List}
use Rattle.dispatch_history.specs.Effect.{Effect}
use Rattle.dispatch_history.specs.Reply.{is_due}
use Rattle.dispatcher.specs.DispatchTables.Dues.{due_moment}
use Rattle.dispatcher.specs.Dispatching.{IsAfter}
use Rattle.why_text.specs.Lines.{timeout_words}
use Rattle.why_lines.specs.Losing.{LosesAll}
use Rattle.why_lines.proofs.Ticking.{grown_to}
use Rattle.why_lines.proofs.ticks.add_tick.Given as goal

-- the lines of the channels that are passed stand behind the text
abbrev pub invariant-loop-place : goal.invariant-loop-place
invariant-loop-place l =
    (es : List Effect) (x : Effect) → IsAfter es l.dispatcher → ((w : ℕ) → is_due (due_moment es w) l.clock ≡ true → LosesAll x es w)
    → l.text.items ≡ grown_to l.clock (timeout_words x es) (λ w. is_due (due_moment es w) l.clock) l.place l.initial.text.items
