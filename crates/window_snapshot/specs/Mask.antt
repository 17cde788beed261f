-- Sets of channels as numbers: the bit one below a channel's number stands for it.
use Rattle.std.specs.Prelude.{ℕ, ◌-◌, ◌^◌, Bool, ◌&&◌, ◌==◌, nat_lt, nat_le, bit_or, bit_and, if◌then◌else◌}
use Rattle.std.specs.Int.{bit_at, bit_not, w64}

-- channels have the numbers 1 to 64
abbrev pub is_channel : ℕ → Bool
is_channel c = nat_lt 0 c && nat_le c 64

-- the channel's bit is set; a number that is no channel's is in no mask
abbrev pub mask_has : ℕ → ℕ → Bool
mask_has mask c = is_channel c && (bit_at mask (c - 1) == 1)

-- the mask with the channel's bit set; a number that is no channel's changes nothing
abbrev pub mask_with : ℕ → ℕ → ℕ
mask_with mask c = if is_channel c then bit_or mask (2 ^ (c - 1)) else mask

-- the channels of a mask that are not in another one
abbrev pub mask_less : ℕ → ℕ → ℕ
mask_less mask other = bit_and mask (bit_not w64 other)
