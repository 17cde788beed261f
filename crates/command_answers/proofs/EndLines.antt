-- The last line of the next channel, and those that are left.
use Rattle.std.proofs.Common.{◌≡◌, ℕ, suc, ◌+◌, ◌-◌, ◌<◌, ◌++◌, List, ap, arith}
use Rattle.std.specs.Option.{unwrap_or}
use Rattle.dispatch_history.specs.Due.{counts}
use Rattle.dispatch_history.specs.Effect.{Effect}
use Rattle.schedule.specs.Printing.{end_of}
use Rattle.stream_text.specs.StreamsHistory.{unopened}
use Rattle.command_answers.specs.Work.{end_lines}

pub ends_next : (es : List Effect) (i n : ℕ) → i < n
    → end_lines (i + 1) (n - i) es ≡ end_of (i + 1) (unwrap_or (counts es (i + 1)) unopened) ++ end_lines (i + 1 + 1) (n - (i + 1)) es
ends_next es i n within =
    let one : n - i ≡ suc (n - (i + 1)) = omega (arith, within) in
    ap (λ k. end_lines (i + 1) k es) one
