-- One more piece.
use Rattle.std.proofs.Common.{◌≡◌, ◌∙◌, ℕ, List, [], ◌∷◌, ◌++◌, ap, sym}
use Rattle.std.proofs.lemmas.List.{append-nil, append_assoc}
use Rattle.std.specs.declared.alloc.Global.{Global}
use Rattle.std.specs.declared.vec.Vec.{Vec}
use Rattle.text_pieces.specs.Joined.{joined}

-- a piece after the others is the end of the text
pub joined_more : (ps : List (Vec ℕ Global)) (p : Vec ℕ Global) → joined (ps ++ p ∷ []) ≡ joined ps ++ p.items
joined_more [] p = append-nil p.items
joined_more (q ∷ ps) p = ap (λ xs. q.items ++ xs) (joined_more ps p) ∙ sym (append_assoc q.items (joined ps) p.items)
