use Rattle.std.proofs.Common.{◌≡◌, ◌+◌, ◌++◌, List, map, drop, length}
use Rattle.dispatch_history.specs.Effect.{Effect, past_of}
use Rattle.dispatch_history.specs.History.{opened}
use Rattle.dispatch_history.specs.Plan.{Plan}
use Rattle.session_plan.specs.View.{channel_view}
use Rattle.stream_text.specs.StreamsHistory.{sections_of}
use Rattle.schedule.specs.Printing.{Prints}
use Rattle.schedule.specs.State.{Has}
use Rattle.command_answers.proofs.texts.add_sections.Given as goal

-- the sections so far, and then those that are left, are all
abbrev pub invariant-loop-place : goal.invariant-loop-place
invariant-loop-place l = (plan : Plan) (es : List Effect) → Has plan es l.initial.schedule → opened (past_of es) ≡ length plan.channels
    → length l.channels ≡ length plan.channels → Prints plan es (l.place + 1) l.schedule
    × (l.text ++ sections_of (l.place + 1) (map (λ c. c.name) (map channel_view (drop l.place l.channels))) es
    ≡ l.initial.text ++ sections_of 1 (map (λ c. c.name) (map channel_view l.channels)) es)
