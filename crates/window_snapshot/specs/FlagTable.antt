-- The flags of a window by name.
use Rattle.std.specs.Prelude.{ℕ, List, [], ◌∷◌, codes}

-- each flag's name and bit
abbrev pub flag_table : List (List ℕ × ℕ)
flag_table =
    (codes "NOT_TOUCHABLE", 1) ∷ (codes "NOT_FOCUSABLE", 2) ∷ (codes "WATCH_OUTSIDE_TOUCH", 4) ∷ (codes "SLIPPERY", 8) ∷ (codes "SPY", 16) ∷ (codes "PREVENT_SPLITTING", 32)
    ∷ (codes "TRUSTED_OVERLAY", 64) ∷ []
