-- The lines of what each channel was sent, as far as they are kept.
use Rattle.std.specs.Prelude.{◌≡◌, ℕ, ◌-◌, ◌≤◌, List, [], length, reverse, take, slice_index_or}
use Rattle.dispatch_history.specs.Effect.{Effect, stream}
use Rattle.dispatcher.specs.Access.{gone}
use Rattle.dispatcher.specs.Dispatching.{Dispatching}
use Rattle.stream_text.specs.Spelling.{message_lines}
use Rattle.schedule.specs.declared.keeping.Lines.{Lines}
use Rattle.schedule.specs.declared.keeping.Lines.TheVariants.{Kept, Counted, Causes}

-- how many texts a run with this many channels has: one for each channel, or none
abbrev pub texts : Lines → ℕ → ℕ
texts Kept n = n
texts Counted n = 0
texts Causes n = 0

-- the lines of a channel, where channel 1 is the first
abbrev pub lines_at : List (List ℕ) → ℕ → List ℕ
lines_at lines c = slice_index_or lines (c - 1) []

-- the lines of the first messages of a channel
abbrev pub lines_first : List Effect → (channel count : ℕ) → List ℕ
lines_first es c n = message_lines (take n (reverse (stream es c)))

-- for each channel, the lines of what it released, whether its owner received that or not
abbrev pub Drained : List Effect → Dispatching → List (List ℕ) → Type 0
Drained es d lines = (c : ℕ) → 1 ≤ c → c ≤ length lines → lines_at lines c ≡ lines_first es c (gone d c)
