use Rattle.std.proofs.Common.{◌≡◌, ℕ, ◌-◌, ◌^◌, Bool, true, false, cond, refl, ap, ◌∙◌}
use Rattle.std.specs.Int.RustNames.{bit_or}
use Rattle.std.specs.Int.Bits.{or_zero_r}
use Rattle.window_snapshot.specs.Mask.{is_channel}
use Rattle.window_snapshot.proofs.mask.mask_with.Goals as goal

-- a bit that may be none
with_bit : (b : Bool) (mask bit : ℕ) → bit_or mask (cond b bit 0) ≡ cond b (bit_or mask bit) mask
with_bit true mask bit = refl
with_bit false mask bit = or_zero_r mask

pub returns : goal.returns
returns c = ap (λ b. bit_or c.args.mask b) c.bit_of.ensures
    ∙ with_bit (is_channel c.args.channel) c.args.mask (2 ^ (c.args.channel - 1))
