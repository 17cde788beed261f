-- Pieces stay long where the last one grows, and where one more follows.
use Rattle.std.proofs.Common.{◌+◌, ◌<◌, ◌≤◌, ◌++◌, ℕ, List, [], ◌∷◌, length, map, arith}
use Rattle.std.specs.declared.alloc.Global.{Global}
use Rattle.std.specs.declared.vec.Vec.{Vec}
use Rattle.text_pieces.specs.Long.{AreLong, LongBehind, pieces_of}

behind_grown : (p : List ℕ) (qs : List (List ℕ)) (last now : List ℕ) → length last ≤ length now → LongBehind p (qs ++ last ∷ []) → LongBehind p (qs ++ now ∷ [])
behind_grown p [] last now more h = (omega (arith, h.0), tt)
behind_grown p (q ∷ qs) last now more h = (h.0, behind_grown q qs last now more h.1)

-- the last piece grew
pub long_grown : (before : List (Vec ℕ Global)) (last now : List ℕ) → length last ≤ length now → AreLong (pieces_of before last) → AreLong (pieces_of before now)
long_grown [] last now more h = tt
long_grown (p ∷ ps) last now more h = behind_grown p.items (map (λ (q : Vec ℕ Global). q.items) ps) last now more h

behind_more : (p : List ℕ) (qs : List (Vec ℕ Global)) (last : Vec ℕ Global) (piece : List ℕ) → 65536 < length last.items + length piece
    → LongBehind p (map (λ (q : Vec ℕ Global). q.items) qs ++ last.items ∷ [])
    → LongBehind p (map (λ (q : Vec ℕ Global). q.items) (qs ++ last ∷ []) ++ piece ∷ [])
behind_more p [] last piece long h = (h.0, (long, tt))
behind_more p (q ∷ qs) last piece long h = (h.0, behind_more q.items qs last piece long h.1)

-- one piece more follows the last one
pub long_more : (before : List (Vec ℕ Global)) (last : Vec ℕ Global) (piece : List ℕ) → 65536 < length last.items + length piece
    → AreLong (pieces_of before last.items) → AreLong (pieces_of (before ++ last ∷ []) piece)
long_more [] last piece long h = (long, tt)
long_more (p ∷ ps) last piece long h = behind_more p.items ps last piece long h

behind_front : (p : List ℕ) (qs rs : List (List ℕ)) → LongBehind p (qs ++ rs) → LongBehind p qs
behind_front p [] rs h = tt
behind_front p (q ∷ qs) rs h = (h.0, behind_front q qs rs h.1)

-- the front of long pieces
pub long_front : (ps rs : List (List ℕ)) → AreLong (ps ++ rs) → AreLong ps
long_front [] rs h = tt
long_front (p ∷ ps) rs h = behind_front p ps rs h
