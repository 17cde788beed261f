-- The table of low scan codes.
use Rattle.std.specs.Prelude.{◌≡◌, ℕ, ◌<◌, List, length, get_or}
use Rattle.key_layout.specs.Layout.{Codes, code_at}

-- the key codes of the scan codes below 256, each at its place
pub record IsLow (codes : Codes) (low : List ℕ) : Type 0 where
  pub whole : length low ≡ 256
  pub each : (scan : ℕ) → scan < 256 → get_or low scan 0 ≡ code_at codes scan
