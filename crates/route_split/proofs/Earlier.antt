-- A window that holds something.
use Rattle.std.proofs.Common.{ℕ, ◌-◌, ◌≡◌, ◌==◌, not, true, false, get_or, if◌then◌else◌, ap, inl, inr}
use Rattle.std.proofs.lemmas.Bool.{cases_Bool, both_ways}
use Rattle.window_snapshot.specs.Mask.{is_channel}
use Rattle.touch_state.specs.Rows.{no_row}
use Rattle.touch_state.specs.Touches.{Touches, any}

-- a window that holds something has the number of a channel
pub any_channel : (t : Touches) (w : ℕ) → any t w ≡ true → is_channel w ≡ true
any_channel t w h =
    elim (cases_Bool (is_channel w)) [
      | inl c ↦ c
      | inr f ↦
          let nothing : any t w ≡ false = ap (λ b. not ((if b then get_or t.rows (w - 1) no_row else no_row).ids == 0)) f in
          absurd (both_ways (any t w) nothing h)
    ]
