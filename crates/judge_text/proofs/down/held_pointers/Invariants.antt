use Rattle.std.proofs.Common.{◌≡◌, map}
use Rattle.bits32.specs.Set.{members}
use Rattle.gesture_verifier.specs.Told.{state_of}
use Rattle.judge_text.specs.Down.{pointers_up_to}
use Rattle.judge_text.proofs.down.held_pointers.Given as goal

-- those of the devices so far
abbrev pub invariant-loop-number : goal.invariant-loop-number
invariant-loop-number l = map (λ h. (h.device, members h.ids)) l.held.items ≡ pointers_up_to l.number (state_of l.verifier).ids
