-- Statements about bytes that come piece by piece.
use Rattle.std.specs.Prelude.{ℕ, List, [], ◌++◌}
use Rattle.std.proofs.Common.{append_assoc, append-nil, subst, sym}

-- what holds for some bytes holds for them with one more piece
abbrev pub OneMore : {S : Type 0} → (List ℕ → S → Type 0) → S → S → List ℕ → Type 0
OneMore Says old new piece = (bytes : List ℕ) → Says bytes old → Says (bytes ++ piece) new

-- no bytes more
pub none_behind : {S : Type 0} (Says : List ℕ → S → Type 0) (s : S) → OneMore Says s s []
none_behind Says s bytes h = subst (λ (xs : List ℕ). Says xs s) (sym (append-nil bytes)) h

-- two pieces as one
pub more_behind : {S : Type 0} (Says : List ℕ → S → Type 0) (s t u : S) (front behind : List ℕ) → OneMore Says s t front → OneMore Says t u behind
    → OneMore Says s u (front ++ behind)
more_behind Says s t u front behind f g bytes h = subst (λ (xs : List ℕ). Says xs u) (append_assoc bytes front behind) (g (bytes ++ front) (f bytes h))
