-- What is added to the lines.
use Rattle.std.specs.Prelude.{◌≡◌, ℕ, ◌≤◌, ◌==◌, if◌then◌else◌, List, ◌++◌, length, sum_by}
use Rattle.schedule.specs.Lines.{lines_at}
use Rattle.dispatch_history.specs.Effect.{Effect}
use Rattle.dispatch_history.specs.Effects.{channels}
use Rattle.dispatcher.specs.Dispatching.{Dispatching}
use Rattle.dispatcher.specs.MovedOn.{last_moved}
use Rattle.stream_text.specs.Spelling.{message_line}
use Rattle.window_snapshot.specs.Mask.{mask_has}

-- the lines after some more were appended to those of a channel
abbrev pub WithMore : (more : List ℕ) → ℕ → List (List ℕ) → List (List ℕ) → Type 0
WithMore more channel old new =
    (length new ≡ length old)
    × ((c : ℕ) → 1 ≤ c → c ≤ length old
    → lines_at new c ≡ (if c == channel then lines_at old c ++ more else lines_at old c))

-- how many of the channels 1 to n a mask has
abbrev pub count_to : (n mask : ℕ) → ℕ
count_to n mask = sum_by (λ c. if mask_has mask c then 1 else 0) (channels n)

-- the lines after those of the last Move were appended to those of each channel of a mask
abbrev pub WithLast : (sent device : ℕ) → List Effect → Dispatching → List (List ℕ) → List (List ℕ) → Type 0
WithLast sent device es d old new =
    (length new ≡ length old)
    × ((c : ℕ) → 1 ≤ c → c ≤ length old
    → lines_at new c ≡ (if mask_has sent c then lines_at old c ++ message_line (last_moved es device d c) else lines_at old c))
