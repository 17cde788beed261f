-- Blanks and words.
use Rattle.std.specs.Prelude.{ℕ, ◌-◌, ◌==◌, Bool, not, ◌||◌, if◌then◌else◌, List, [], ◌∷◌, length, slice_index}
use Rattle.std.specs.List.{prefix_len}

-- a space or a tab
abbrev pub is_blank : ℕ → Bool
is_blank b = b == 32 || b == 9

-- the bytes after the leading blanks, if any
abbrev pub skip_blanks : List ℕ → List ℕ
skip_blanks [] = []
skip_blanks (b ∷ bs) = if is_blank b then skip_blanks bs else b ∷ bs

-- the number of bytes before the first blank
abbrev pub word_len : List ℕ → ℕ
word_len bs = prefix_len (λ b. not (is_blank b)) bs

-- whether the last byte is c, which is not 0
abbrev pub ends_in : ℕ → List ℕ → Bool
ends_in c bs = slice_index bs (length bs - 1) == c
