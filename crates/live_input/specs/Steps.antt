-- The steps at which messages were published.
use Rattle.std.specs.Prelude.{ℕ, ◌≡◌, ◌+◌, ◌-◌, ◌%◌, ◌^◌, ◌≤◌, ◌<◌, ◌==◌, suc, min, max, false, nat_le, List, [], ◌∷◌, length, slice_index_or, replicate, if◌then◌else◌}
use Rattle.dispatch_history.specs.Delivery.{published}
use Rattle.dispatch_history.specs.Effect.{Effect}
use Rattle.live_input.specs.declared.steps.Recent.{Recent}
use Rattle.live_input.specs.declared.steps.Steps.{Steps}

-- a value for the numbers up to n, and one for all others
abbrev pub at_or : (ℕ → ℕ) → (n other : ℕ) → ℕ → ℕ
at_or at n other k = if nat_le k n then at k else other

-- the step at which message k of a channel was published, counted from 1: the first one after which it was. That is the
-- step that sent it, unless 64 messages of the channel were unfinished then.
abbrev pub published_at : List Effect → (channel : ℕ) → ℕ → ℕ
published_at [] c = λ k. 0
published_at (x ∷ before) c = at_or (published_at before c) (published before c) (suc (length before))

-- what is kept of a channel without messages
abbrev pub no_step : Recent
no_step = record { published = 0; steps = replicate 64 0 }

-- the step that is kept of message k
abbrev pub kept_step : Recent → ℕ → ℕ
kept_step r k = slice_index_or r.steps (k % 64) 0

-- what is kept of a channel; channels have the numbers from 1
abbrev pub recent_of : Steps → ℕ → Recent
recent_of s c = slice_index_or s.channels (c - 1) no_step

-- the steps of the last 64 published messages are kept
pub record Remembers (at : ℕ → ℕ) (r : Recent) : Type 0 where
  pub all : length r.steps ≡ 64
  pub steps_are : (k : ℕ) → k ≤ r.published → r.published < k + 64 → kept_step r k ≡ at k

-- What is kept agrees with the history: how many steps it has, how many messages of each channel are published, and the
-- steps at which the last of them were, as long as steps can be counted in 64 bits.
pub record StepsAre (es : List Effect) (s : Steps) : Type 0 where
  pub made_is : s.made ≡ min (length es) (2 ^ 64 - 1)
  pub all : length s.channels ≡ 64
  pub published_are : (c : ℕ) → 1 ≤ c → c ≤ 64 → (recent_of s c).published ≡ published es c
  pub steps_are : length es < 2 ^ 64 → (c : ℕ) → 1 ≤ c → c ≤ 64 → Remembers (published_at es c) (recent_of s c)

-- one more call is counted
abbrev pub counted : Steps → Steps
counted s = record s { made = min (s.made + 1) (2 ^ 64 - 1) }

-- what is published of a channel is recorded: what was not before is of the last step
pub record Notes (es : List Effect) (c : ℕ) (old new : Steps) : Type 0 where
  pub published_is : (recent_of new c).published ≡ max (recent_of old c).published (published es c)
  pub steps_are : (at : ℕ → ℕ) → Remembers at (recent_of old c) → Remembers (at_or at (recent_of old c).published old.made) (recent_of new c)

-- that of one channel, if it is one of the 64, and all others stay
pub record NotesOnly (es : List Effect) (channel : ℕ) (old new : Steps) : Type 0 where
  pub made_is : new.made ≡ old.made
  pub all : length new.channels ≡ length old.channels
  pub noted : 1 ≤ channel → channel ≤ 64 → length old.channels ≡ 64 → Notes es channel old new
  pub others : (c : ℕ) → 1 ≤ c → (c == channel) ≡ false → recent_of new c ≡ recent_of old c

-- that of all channels
pub record NotesAll (es : List Effect) (old new : Steps) : Type 0 where
  pub made_is : new.made ≡ old.made
  pub all : length new.channels ≡ length old.channels
  pub noted : (c : ℕ) → 1 ≤ c → c ≤ 64 → length old.channels ≡ 64 → Notes es c old new
