use Rattle.std.proofs.Common.{ℕ, ◌-◌, ◌≤◌, max}
use Rattle.live_input.specs.Steps.{Remembers, at_or}
use Rattle.live_input.proofs.steps.Recent.publish.Given as goal

-- the messages up to some are recorded
abbrev pub invariant-loop-self : goal.invariant-loop-self
invariant-loop-self l =
    record {
      low : l.initial.self.published ≤ l.self.published;
      high : l.self.published ≤ max l.initial.self.published l.last;
      steps : (at : ℕ → ℕ) → Remembers at l.initial.self → Remembers (at_or at l.initial.self.published l.step) l.self;
    }

abbrev pub decreases-loop-self : goal.decreases-loop-self
decreases-loop-self l = l.last - l.self.published
