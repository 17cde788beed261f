-- What C gets about what a judge knows.
use Rattle.std.specs.Prelude.{◌≡◌, ℕ, ◌-◌, true, Option, Some, None, slice_index}
use Rattle.bits32.specs.Set.{members}
use Rattle.gesture_verifier.specs.Told.{Told, is_device, state_of}
use Rattle.inputflinger_c.specs.declared.judge_state.PlainState.{PlainState}
use Rattle.plain_calls.specs.Numbers.{flag}
use Rattle.plain_calls.specs.Status.{status_ok, is_free}

-- a state has the ids that are down on each device, and the focus
pub record Sends (told : Told) (s : PlainState) : Type 0 where
  pub ids : (d : ℕ) → is_device d ≡ true → members (slice_index s.ids (d - 1)) ≡ (state_of told).ids d
  pub focus : s.focus ≡ flag (state_of told).focus

-- the result of `state`: a free handle returns nothing, and a judge stays as it is
abbrev pub StateGoes : Option Told → ℕ → Option Told → PlainState → PlainState → Type 0
StateGoes None status new before after = (status ≡ is_free) × ((new ≡ None) × (after ≡ before))
StateGoes (Some told) status new before after = (status ≡ status_ok) × ((new ≡ Some told) × Sends told after)
