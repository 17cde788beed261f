use Rattle.std.proofs.Common.{◌≡◌, ◌≤◌, ◌+◌, ℕ, List, length, true}
use Rattle.window_snapshot.specs.Mask.{mask_has}
use Rattle.dispatch_history.specs.Effect.{Effect, stream}
use Rattle.dispatcher.specs.Access.{gone, is_opened}
use Rattle.dispatcher.specs.Dispatching.{IsAfter}
use Rattle.dispatcher.specs.MovedOn.{last_moved}
use Rattle.stream_text.specs.Spelling.{message_line}
use Rattle.schedule.specs.Draining.{count_to}
use Rattle.schedule.specs.State.{counted}
use Rattle.schedule.proofs.EachMoved.{WithReached}
use Rattle.schedule.proofs.stream.drain_each.Given as goal

-- the line came to the channels that were reached, and they are counted
abbrev pub invariant-loop-rest : goal.invariant-loop-rest
invariant-loop-rest l =
    record {
      within : (c : ℕ) → mask_has l.rest c ≡ true → mask_has l.sent c ≡ true;
      lines : (es : List Effect) → IsAfter es l.dispatcher → ((c : ℕ) → mask_has l.sent c ≡ true → is_opened es c ≡ true)
          → ((c : ℕ) → mask_has l.sent c ≡ true → gone l.dispatcher c ≡ length (stream es c))
          → WithReached (λ c. message_line (last_moved es l.device l.dispatcher c)) l.sent l.rest l.initial.streams.items l.streams.items;
      count : (n : ℕ) → ((c : ℕ) → mask_has l.sent c ≡ true → c ≤ n) → counted (l.count + count_to n l.rest) ≡ counted (count_to n l.sent);
      few : l.count ≤ 18446744073709551615;
    }

-- one channel less is left
abbrev pub decreases-loop-rest : goal.decreases-loop-rest
decreases-loop-rest l = l.rest
