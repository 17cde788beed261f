use Rattle.std.proofs.Common.{◌≡◌, take}
use Rattle.touch_region.proofs.band.copy_bands.Given as goal

abbrev pub invariant-loop-band : goal.invariant-loop-band
invariant-loop-band l = l.copied.items ≡ take l.band-index l.bands
