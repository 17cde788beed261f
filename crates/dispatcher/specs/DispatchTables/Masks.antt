-- Which channels can take input after a step, and the masks of these.
use Rattle.std.specs.Prelude.{ℕ, Bool, not, ◌==◌, ◌&&◌, ◌||◌, if◌then◌else◌}
use Rattle.window_snapshot.specs.Mask.{mask_has, mask_with}
pub use Rattle.window_snapshot.specs.Mask.{mask_less}
use Rattle.dispatch_calls.specs.declared.call.Call.{Call}
use Rattle.dispatch_calls.specs.declared.call.Call.TheVariants.{Open, Tick, Finish, Remove}
use Rattle.dispatch_calls.specs.declared.reply.Reply.{Reply}
use Rattle.dispatch_calls.specs.declared.reply.Reply.TheVariants.{Opened, Done, Named}

-- A channel is able once it is opened, and no longer once it is removed or reported. A finish makes it able if none
-- of its messages is late after it.
abbrev pub able_after : Call → Reply → (late : Bool) → ℕ → (before : Bool) → Bool
able_after (Open terms) (Opened k) late c before = c == k || before
able_after (Remove now k) Done late c before = not (c == k) && before
able_after (Tick now) (Named mask) late c before = not (mask_has mask c) && before
able_after (Finish now k seq) Done late c before = if c == k then before || not late else before
able_after call answer late c before = before

-- the mask of the live channels after a step
abbrev pub live_mask_after : Call → Reply → ℕ → ℕ
live_mask_after (Open terms) (Opened k) mask = mask_with mask k
live_mask_after (Remove now k) Done mask = mask_less mask (mask_with 0 k)
live_mask_after call answer mask = mask

-- the mask of those that are able, by which channels have late messages after the step
abbrev pub able_mask_after : Call → Reply → (late : ℕ → Bool) → ℕ → ℕ
able_mask_after (Open terms) (Opened k) late mask = mask_with mask k
able_mask_after (Remove now k) Done late mask = mask_less mask (mask_with 0 k)
able_mask_after (Tick now) (Named named) late mask = mask_less mask named
able_mask_after (Finish now k seq) Done late mask = if late k then mask else mask_with mask k
able_mask_after call answer late mask = mask
