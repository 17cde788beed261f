-- Pieces of a text that are not many small ones.
use Rattle.std.specs.Prelude.{ℕ, ◌+◌, ◌<◌, List, [], ◌∷◌, ◌++◌, length, map, ⊤}
use Rattle.std.specs.declared.alloc.Global.{Global}
use Rattle.std.specs.declared.vec.Vec.{Vec}

-- each piece has more than 64 KiB together with the one before it
abbrev pub LongBehind : List ℕ → List (List ℕ) → Type 0
LongBehind p [] = ⊤
LongBehind p (q ∷ ps) = (65536 < length p + length q) × LongBehind q ps

-- Any two neighbouring pieces have more than 64 KiB together. So a text of n bytes has at most 2 · n / 64 KiB + 1 pieces.
abbrev pub AreLong : List (List ℕ) → Type 0
AreLong [] = ⊤
AreLong (p ∷ ps) = LongBehind p ps

-- all pieces of a text, with the last one
abbrev pub pieces_of : List (Vec ℕ Global) → List ℕ → List (List ℕ)
pieces_of before last = map (λ (p : Vec ℕ Global). p.items) before ++ last ∷ []
