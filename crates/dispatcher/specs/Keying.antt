-- Who is sent keys.
use Rattle.std.specs.Prelude.{ℕ, List, [], Option, Some, None, unwrap_or, if◌then◌else◌}
use Rattle.input_types.specs.declared.key.KeyMsg.{KeyMsg}
use Rattle.window_snapshot.specs.Mask.{mask_has}
use Rattle.focus_resolver.specs.Resolver.{FocusState, target_of, is_at}
use Rattle.dispatcher.specs.CancelSynthesis.Ends.{keys_cancelled}
use Rattle.dispatcher.specs.DispatchChannels.Table.{Table, input_of}

-- a channel that is live
abbrev pub only_live : (live : ℕ) → Option ℕ → Option ℕ
only_live live None = None
only_live live (Some t) = if mask_has live t then Some t else None

-- the key target, if it is live
abbrev pub listening : FocusState → (live : ℕ) → Option ℕ
listening f live = only_live live (target_of f)

-- the number of the key target; 0 if there is none
abbrev pub target_number : FocusState → ℕ
target_number f = unwrap_or (target_of f) 0

-- the cancels of the keys of a window, if there is one
abbrev pub cancelled_of : Option ℕ → Table → List KeyMsg
cancelled_of None t = []
cancelled_of (Some w) t = keys_cancelled (input_of t w).keys

-- a channel that is no longer the key target
abbrev pub if_lost : (after : Option ℕ) → Option ℕ → Option ℕ
if_lost after None = None
if_lost after (Some w) = if is_at after w then None else Some w

-- a channel of a mask
abbrev pub if_in : (mask : ℕ) → Option ℕ → Option ℕ
if_in mask None = None
if_in mask (Some w) = if mask_has mask w then Some w else None

-- what the key target is sent if it is no longer the key target after the step
abbrev pub lost_keys : FocusState → (after : Option ℕ) → Table → List KeyMsg
lost_keys f after t = cancelled_of (if_lost after (listening f t.live)) t

-- what it is sent if windows are reported
abbrev pub named_keys : FocusState → (mask : ℕ) → Table → List KeyMsg
named_keys f mask t = cancelled_of (if_in mask (listening f t.live)) t
